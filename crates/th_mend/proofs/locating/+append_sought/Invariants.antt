use Rattle.std.proofs.Common.{length}
use Rattle.th_mend.proofs.locating.+append_sought.Given as goal

abbrev pub decreases-append_sought : goal.decreases-append_sought
decreases-append_sought l = length l.changes.now
