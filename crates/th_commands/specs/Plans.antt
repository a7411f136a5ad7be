use Rattle.std.specs.Prelude.{◌≡◌, ◌≢◌, ◌<◌, ◌≤◌, ◌⊎◌, false, true, List, Option, Some, None, option_map, length, []}
use Rattle.clap.specs.Words.{IsAmong, Text, fault_of, kind_of, subcommand_of}
use Rattle.clap.specs.declared.error.kind.ErrorKind.TheVariants.{OutOfMemory}
use Rattle.th_commands.specs.Commands.{command_line}
use Rattle.th_commands.specs.ArgumentFaults.{argument_fault_by}
use Rattle.th_commands.specs.Asked.{Asked, Files, adjust, asked_by, book, book_of_heights, check, check_with_inputs, explain, list, mend, page, review}
use Rattle.th_commands.specs.Books.{names_in}
use Rattle.th_commands.specs.declared.plans.Inputs.{Inputs}
use Rattle.th_commands.specs.declared.plans.Plan.{Plan}
use Rattle.th_commands.specs.declared.plans.Plan.TheVariants as plan
use Rattle.th_commands.specs.declared.faults.PlanFault.{PlanFault}
use Rattle.th_commands.specs.declared.faults.PlanFault.TheVariants.{Argument, Line, NoMemory}
use Rattle.th_commands.specs.declared.faults.ArgumentFault.{ArgumentFault}

-- `clap` accepts the arguments: it reports no fault
abbrev pub AreTaken : List Text → Type 0
AreTaken words = fault_of command_line words ≡ []

-- what the arguments request, as `clap` parses them
abbrev pub asked : List Text → Option Asked
asked words = asked_by (subcommand_of command_line words)

-- what is wrong with the arguments, as `clap` parses them
abbrev pub argument_fault : List Text → Option ArgumentFault
argument_fault words = argument_fault_by (subcommand_of command_line words)

-- the names of the files in some inputs
abbrev pub files : Inputs → Files
files inputs = record {
  books = names_in inputs.books;
  benchmarks = inputs.benchmarks.now;
  weights = option_map (λ name. name.now) inputs.weights;
}

-- what a plan does, as a request; none if it is to list standard input
abbrev pub said_by : Plan → Option Asked
said_by plan.Standard = None
said_by (plan.List name) = Some (list name.now)
said_by (plan.Adjust inputs limit prefix) = Some (adjust (files inputs) limit prefix.now)
said_by (plan.Review inputs limit prefix) = Some (review (files inputs) limit prefix.now)
said_by (plan.Explain inputs limit table) = Some (explain (files inputs) limit table)
said_by (plan.Page inputs limit prefix title) = Some (page (files inputs) limit prefix.now title.now)
said_by (plan.Check inputs certificate false) = Some (check (files inputs) certificate.now)
said_by (plan.Check inputs certificate true) = Some (check_with_inputs (files inputs) certificate.now)
said_by (plan.Book table) = Some (book table.now)
said_by (plan.BookOfHeights name) = Some (book_of_heights name.now)
said_by (plan.Mend changes name) = Some (mend changes.now name.now)

-- The plan is what the arguments request. With no argument after the program's name, or without even that name, it is to
-- list standard input. `-` and the empty name are names like any other: a folder says what `-` names, and no file has the empty name.
abbrev pub IsPlanOf : List Text → Plan → Type 0
IsPlanOf words plan.Standard = length words ≤ 1
IsPlanOf words other = (1 < length words) × AreTaken words × (asked words ≡ said_by other)

-- A fault of the arguments, if there are any after the program's name. Either `clap` reports it; or `clap` accepts them and they request nothing, since
-- something is wrong with one of them, or for no such reason. Any such arguments may give out of memory instead.
abbrev pub IsFaultOf : List Text → PlanFault → Type 0
IsFaultOf words (Line error) = (1 < length words) × (kind_of error ≢ OutOfMemory) × (IsAmong (kind_of error) (fault_of command_line words)
    ⊎ (AreTaken words × (asked words ≡ None) × (argument_fault words ≡ None)))
IsFaultOf words (Argument own) = (1 < length words) × AreTaken words × (asked words ≡ None) × (argument_fault words ≡ Some own)
IsFaultOf words NoMemory = 1 < length words
