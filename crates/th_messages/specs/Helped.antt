-- The lines of a refusal: its own, and the second, which names the file and what helps.
use Rattle.std.specs.Prelude.{◌++◌, ◌-◌, ◌∷◌, [], ℕ, List, Option, Some, None, option_map, slice_get}
use Rattle.th_devices.specs.declared.reasons.Reason.{Reason}
use Rattle.th_messages.specs.Books.{book_help, fault_help, heights_help}
use Rattle.th_messages.specs.Certificates.{certificate_help}
use Rattle.th_messages.specs.Changes.{changes_help, unfit_help}
use Rattle.th_messages.specs.Differences.{differences_help}
use Rattle.th_messages.specs.Helps.{help_line, read_reason, reason_line, write_reason}
use Rattle.th_messages.specs.Networks.{network_help}
use Rattle.th_messages.specs.Tables.{benchmarks_help, weights_help}
use Rattle.th_network.specs.declared.faults.NetFault.{NetFault}
use Rattle.th_network.specs.declared.faults.NetFault.TheVariants as network
use Rattle.th_commands.specs.Asked.{Files}
use Rattle.th_commands.specs.Plans.{files}
use Rattle.th_commands.specs.declared.plans.Plan.{Plan}
use Rattle.th_commands.specs.declared.plans.Plan.TheVariants as plan
use Rattle.th_run_parts.specs.Outputs.{ending_of}
use Rattle.th_run_parts.specs.Refusals.{refusal_text}
use Rattle.th_inputs.specs.declared.inputs.Input.{Input}
use Rattle.th_inputs.specs.declared.inputs.Input.TheVariants as source
use Rattle.th_run_parts.specs.declared.outputs.Output.{Output}
use Rattle.th_run_parts.specs.declared.refusals.Refusal.{Refusal}
use Rattle.th_run_parts.specs.declared.refusals.Refusal.TheVariants as refusal

-- the name of an input among these files
abbrev pub name_in : Files → Input → Option (List ℕ)
name_in from (source.Book number) = slice_get from.books (number - 1)
name_in from source.Benchmarks = Some from.benchmarks
name_in from source.Weights = from.weights
name_in from source.Certificate = None
name_in from source.Differences = None
name_in from source.Changes = None

-- the name of an input of a plan; standard input has none
abbrev pub name_of_input : Plan → Input → Option (List ℕ)
name_of_input plan.Standard which = None
name_of_input (plan.List book) which = Some book.now
name_of_input (plan.Adjust inputs limit prefix) which = name_in (files inputs) which
name_of_input (plan.Review inputs limit prefix) which = name_in (files inputs) which
name_of_input (plan.Explain inputs limit table) which = name_in (files inputs) which
name_of_input (plan.Page inputs limit prefix title) which = name_in (files inputs) which
name_of_input (plan.Check inputs certificate with_inputs) source.Certificate = Some certificate.now
name_of_input (plan.Check inputs certificate with_inputs) other = name_in (files inputs) other
name_of_input (plan.Book table) which = Some table.now
name_of_input (plan.BookOfHeights book) which = Some book.now
name_of_input (plan.Mend changes book) source.Changes = Some changes.now
name_of_input (plan.Mend changes book) other = Some book.now

-- the name of an output of a plan; standard output has none
abbrev pub name_of_output : Plan → Output → Option (List ℕ)
name_of_output (plan.Adjust inputs limit prefix) which = option_map (λ ending. prefix.now ++ ending) (ending_of which)
name_of_output (plan.Review inputs limit prefix) which = option_map (λ ending. prefix.now ++ ending) (ending_of which)
name_of_output (plan.Page inputs limit prefix title) which = option_map (λ ending. prefix.now ++ ending) (ending_of which)
name_of_output other which = None

-- the second line for a fault of the network: a point without a benchmark may be spelled otherwise in the table of benchmarks
abbrev pub network_line : Plan → NetFault → List ℕ
network_line asked (network.NoBenchmark name) = help_line (name_of_input asked source.Benchmarks) (network_help (network.NoBenchmark name))
network_line asked other = help_line None (network_help other)

-- the second line of a refusal, if the system told this reason or none; there is none where memory ran out
abbrev pub second_line : Plan → Refusal → Option Reason → List ℕ
second_line asked (refusal.Book number fault) reason = help_line (name_of_input asked (source.Book number)) (fault_help fault)
second_line asked (refusal.Benchmarks fault) reason = help_line (name_of_input asked source.Benchmarks) (benchmarks_help fault.kind)
second_line asked (refusal.Weights fault) reason = help_line (name_of_input asked source.Weights) (weights_help fault.kind)
second_line asked (refusal.Certificate fault) reason = help_line (name_of_input asked source.Certificate) (certificate_help fault.kind)
second_line asked (refusal.Differences fault) reason = help_line (name_of_input asked source.Differences) (differences_help fault.kind)
second_line asked (refusal.Heights fault) reason = help_line (name_of_input asked (source.Book 1)) (heights_help fault.kind)
second_line asked (refusal.Changes fault) reason = help_line (name_of_input asked source.Changes) (changes_help fault.kind)
second_line asked (refusal.Unfit fault) reason = help_line (name_of_input asked source.Changes) (unfit_help fault.kind)
second_line asked (refusal.Mended fault) reason = help_line (name_of_input asked (source.Book 1)) (book_help fault.kind)
second_line asked (refusal.Network fault) reason = network_line asked fault
second_line asked (refusal.Read which) reason = reason_line (name_of_input asked which) (option_map read_reason reason)
second_line asked (refusal.Write which) reason = reason_line (name_of_output asked which) (option_map write_reason reason)
second_line asked refusal.NoMemory reason = []

-- both lines of a refusal
abbrev pub refused_lines : Plan → Refusal → Option Reason → List ℕ
refused_lines asked own reason = (refusal_text own ++ 10 ∷ []) ++ second_line asked own reason
