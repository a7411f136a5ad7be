use Rattle.std.proofs.Common.{length}
use Rattle.th_entries.proofs.running.+unit_in.Given as goal

abbrev pub decreases-unit_in : goal.decreases-unit_in
decreases-unit_in l = length l.words.now
