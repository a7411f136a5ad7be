use Rattle.std.proofs.Common.{length}
use Rattle.th_conversions.proofs.sights.+repeats.Given as goal

abbrev pub decreases-repeats : goal.decreases-repeats
decreases-repeats l = length l.words.now
