use Rattle.std.proofs.Common.{length}
use Rattle.th_page.proofs.heads.+write_next_names.Given as goal

abbrev pub decreases-write_next_names : goal.decreases-write_next_names
decreases-write_next_names l = length l.names.now
