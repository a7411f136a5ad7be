use Rattle.th_mend.proofs.LawLemmas.{joined_lines}
use Rattle.th_mend.proofs.laws.ended_lines_are_the_text.Goals as goal

pub returns : goal.returns
returns c = joined_lines
