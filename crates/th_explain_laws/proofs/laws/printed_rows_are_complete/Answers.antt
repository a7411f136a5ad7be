use Rattle.th_explain_laws.proofs.PrintedLemmas.{beyond_passes, complete_printed, half_of_limit_passes}
use Rattle.th_explain_laws.proofs.laws.printed_rows_are_complete.Goals as goal

pub returns : goal.returns
returns c = record {
  printed = λ survey reviews limit explained are. complete_printed survey reviews limit explained are c.freed_is_one.ensures;
  beyond = λ survey reviews limit explained are candidate freed passes. beyond_passes survey reviews limit explained are candidate freed passes;
  half = λ survey reviews limit explained are candidate freed passes led. half_of_limit_passes survey reviews limit explained are candidate freed passes led;
}
