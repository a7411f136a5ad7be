use Rattle.std.proofs.Common.{length}
use Rattle.th_mend.proofs.counting.+holds.Given as goal

abbrev pub decreases-holds : goal.decreases-holds
decreases-holds l = length l.words.now
