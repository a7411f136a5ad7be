use Rattle.std.proofs.Common.{length}
use Rattle.th_page.proofs.asks.+write_inputs.Given as goal

abbrev pub decreases-write_inputs : goal.decreases-write_inputs
decreases-write_inputs l = length l.names.now
