use Rattle.std.proofs.Common.{length}
use Rattle.th_mend.proofs.locating.+see.Given as goal

abbrev pub decreases-see : goal.decreases-see
decreases-see l = length l.sought.now
