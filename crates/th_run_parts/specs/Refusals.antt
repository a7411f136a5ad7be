use Rattle.std.specs.Prelude.{◌++◌, ℕ, List, codes}
use Rattle.std.specs.Fmt.{decimal}
use Rattle.th_book.specs.Texts.{fault_text as book_fault_text}
use Rattle.th_certificate.specs.Faults.{fault_text as cert_fault_text}
use Rattle.th_checker.specs.declared.verdicts.Verdict.{Verdict}
use Rattle.th_checker.specs.declared.verdicts.Verdict.TheVariants.{Yes, No}
use Rattle.th_conversions.specs.HeightFaults.{fault_text as height_fault_text}
use Rattle.th_conversions.specs.Texts.{fault_text as difference_fault_text}
use Rattle.th_mend.specs.Faults.{row_text}
use Rattle.th_mend.specs.Texts.{fault_text as change_fault_text}
use Rattle.th_network.specs.Texts.{fault_text as net_fault_text}
use Rattle.th_tables.specs.Texts.{fault_text as table_fault_text}
use Rattle.th_run_parts.specs.Outputs.{output_text}
use Rattle.th_inputs.specs.Inputs.{input_text}
use Rattle.th_run_parts.specs.declared.refusals.Refusal.{Refusal}
use Rattle.th_run_parts.specs.declared.refusals.Refusal.TheVariants.{Book, Benchmarks, Weights, Certificate, Differences, Heights, Changes, Unfit, Mended, Network, Read, Write, NoMemory}

-- the text of a refusal: one line, without its line feed
abbrev pub refusal_text : Refusal → List ℕ
refusal_text (Book number fault) = codes "book " ++ decimal number ++ codes " " ++ book_fault_text fault
refusal_text (Benchmarks fault) = codes "benchmarks " ++ table_fault_text fault
refusal_text (Weights fault) = codes "weights " ++ table_fault_text fault
refusal_text (Certificate fault) = codes "certificate " ++ cert_fault_text fault
refusal_text (Differences fault) = codes "differences " ++ difference_fault_text fault
refusal_text (Heights fault) = codes "book 1 " ++ height_fault_text fault
refusal_text (Changes fault) = codes "changes " ++ change_fault_text fault
refusal_text (Unfit fault) = codes "changes " ++ row_text fault
refusal_text (Mended fault) = codes "mended " ++ book_fault_text fault
refusal_text (Network fault) = codes "network: " ++ net_fault_text fault
refusal_text (Read which) = codes "read failed: " ++ input_text which
refusal_text (Write which) = codes "write failed: " ++ output_text which
refusal_text NoMemory = codes "out of memory"

-- the status after a refusal: 2 for an input or a network that was refused, 4 for out of memory, 5 for a device that failed
abbrev pub status_of : Refusal → ℕ
status_of (Book number fault) = 2
status_of (Benchmarks fault) = 2
status_of (Weights fault) = 2
status_of (Certificate fault) = 2
status_of (Differences fault) = 2
status_of (Heights fault) = 2
status_of (Changes fault) = 2
status_of (Unfit fault) = 2
status_of (Mended fault) = 2
status_of (Network fault) = 2
status_of (Read input) = 5
status_of (Write output) = 5
status_of NoMemory = 4

-- the status after a verdict: 0 for yes, 1 for no
abbrev pub status_of_verdict : Verdict → ℕ
status_of_verdict Yes = 0
status_of_verdict (No reason) = 1
