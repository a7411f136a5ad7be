use Rattle.std.proofs.Common.{length}
use Rattle.th_messages.proofs.notes.+put_numbers.Given as goal

abbrev pub decreases-put_numbers : goal.decreases-put_numbers
decreases-put_numbers g l = length l.numbers.now
