use Rattle.std.proofs.Common.{length}
use Rattle.th_entries.proofs.words.+see.Given as goal

abbrev pub decreases-see : goal.decreases-see
decreases-see l = length l.seen.now
