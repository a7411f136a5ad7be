use Rattle.std.proofs.Common.{◌≡◌, ◌++◌, drop}
use Rattle.std.specs.List.{flat_map}
use Rattle.th_meant.specs.Named.{other_at, others_of}
use Rattle.th_meant.proofs.named.others_of.Given as goal

abbrev pub invariant-loop-entry : goal.invariant-loop-entry
invariant-loop-entry l = l.others.items ++ flat_map (other_at l.keyed) (drop l.entry-index l.entries) ≡ others_of l.entries l.keyed
