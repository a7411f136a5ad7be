use Rattle.std.proofs.Common.{length}
use Rattle.th_mend.proofs.words.+name_edit.Given as goal

abbrev pub decreases-name_edit : goal.decreases-name_edit
decreases-name_edit l = length l.edits.now
