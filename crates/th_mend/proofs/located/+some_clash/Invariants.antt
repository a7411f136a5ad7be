use Rattle.std.proofs.Common.{length}
use Rattle.th_mend.proofs.located.+some_clash.Given as goal

abbrev pub decreases-some_clash : goal.decreases-some_clash
decreases-some_clash l = length l.others.now
