use Rattle.std.proofs.Common.{length}
use Rattle.th_mend.proofs.located.+append_edits.Given as goal

abbrev pub decreases-append_edits : goal.decreases-append_edits
decreases-append_edits l = length l.sought.now
