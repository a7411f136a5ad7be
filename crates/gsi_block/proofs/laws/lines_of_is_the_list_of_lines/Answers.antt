use Rattle.gsi_block.proofs.LinesLaw.{lines_of-from_AreLines, AreLines-lines_of}
use Rattle.gsi_block.proofs.laws.lines_of_is_the_list_of_lines.Goals as goal

pub returns : goal.returns
returns c = λ text lines. (λ e. rw e (AreLines-lines_of text), lines_of-from_AreLines lines text)
