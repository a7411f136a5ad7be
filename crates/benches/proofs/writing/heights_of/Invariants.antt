use Rattle.std.proofs.Common.{◌<◌, All, unsigned_abs}
use Rattle.th_network.specs.Limits.{height_limit}
use Rattle.benches.proofs.writing.heights_of.Given as goal

abbrev pub invariant-loop-height : goal.invariant-loop-height
invariant-loop-height l = All (λ height. unsigned_abs height < height_limit) l.heights.items
