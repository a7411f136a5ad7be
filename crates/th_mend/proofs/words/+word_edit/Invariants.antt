use Rattle.std.proofs.Common.{length}
use Rattle.th_mend.proofs.words.+word_edit.Given as goal

abbrev pub decreases-word_edit : goal.decreases-word_edit
decreases-word_edit l = length l.edits.now
