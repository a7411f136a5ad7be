use Rattle.th_mend.specs.Ends.{ended_lines}
use Rattle.th_mend.proofs.LawLemmas.{all_mended}
use Rattle.th_mend.proofs.laws.other_lines_stay.Goals as goal

pub returns : goal.returns
returns c = λ edits bytes text is. all_mended edits 0 (ended_lines bytes) text is
