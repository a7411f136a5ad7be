use Rattle.std.proofs.Common.{length}
use Rattle.th_messages.proofs.remarks.+put_alikes.Given as goal

abbrev pub decreases-put_alikes : goal.decreases-put_alikes
decreases-put_alikes g l = length l.notes.now
