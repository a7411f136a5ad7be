use Rattle.std.proofs.Common.{◌≡◌, ◌++◌, drop}
use Rattle.std.specs.List.{flat_map}
use Rattle.th_meant.specs.Inside.Named.{named_by}
use Rattle.th_meant.proofs.named.named_by_each.Given as goal

abbrev pub invariant-loop-own : goal.invariant-loop-own
invariant-loop-own l = l.named.items ++ flat_map (named_by l.entries) (drop l.own-index l.keyed) ≡ flat_map (named_by l.entries) l.keyed
