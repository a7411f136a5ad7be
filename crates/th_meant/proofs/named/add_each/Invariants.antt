use Rattle.std.proofs.Common.{◌≡◌, ◌++◌, drop, map}
use Rattle.th_meant.specs.Named.{named_with}
use Rattle.th_meant.proofs.named.add_each.Given as goal

abbrev pub invariant-loop-height : goal.invariant-loop-height
invariant-loop-height l = l.named.items ++ map (named_with l.keyed l.others) (drop l.height-index l.heights) ≡ l.fn.named.items ++ map (named_with l.keyed l.others) l.heights
