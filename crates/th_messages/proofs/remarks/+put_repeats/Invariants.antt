use Rattle.std.proofs.Common.{length}
use Rattle.th_messages.proofs.remarks.+put_repeats.Given as goal

abbrev pub decreases-put_repeats : goal.decreases-put_repeats
decreases-put_repeats g l = length l.notes.now
