use Rattle.std.proofs.Common.{length}
use Rattle.th_mend.proofs.words.+append_added.Given as goal

abbrev pub decreases-append_added : goal.decreases-append_added
decreases-append_added l = length l.edits.now
