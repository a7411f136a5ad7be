use Rattle.std.proofs.Common.{length}
use Rattle.th_run_parts.proofs.writing.+write_outs.Given as goal

abbrev pub decreases-write_outs : goal.decreases-write_outs
decreases-write_outs g l = length l.outs.now
