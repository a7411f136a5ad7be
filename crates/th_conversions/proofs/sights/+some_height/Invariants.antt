use Rattle.std.proofs.Common.{length}
use Rattle.th_conversions.proofs.sights.+some_height.Given as goal

abbrev pub decreases-some_height : goal.decreases-some_height
decreases-some_height l = length l.words.now
