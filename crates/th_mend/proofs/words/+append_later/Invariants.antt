use Rattle.std.proofs.Common.{length}
use Rattle.th_mend.proofs.words.+append_later.Given as goal

abbrev pub decreases-append_later : goal.decreases-append_later
decreases-append_later l = length l.words.now
