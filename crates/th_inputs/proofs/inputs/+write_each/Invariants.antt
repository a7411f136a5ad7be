use Rattle.std.proofs.Common.{length}
use Rattle.th_inputs.proofs.inputs.+write_each.Given as goal

abbrev pub decreases-write_each : goal.decreases-write_each
decreases-write_each l = length l.names.now
