use Rattle.std.proofs.Common.{◌≡◌, ◌++◌, drop, map}
use Rattle.th_notes.specs.Twins.{twin_note}
use Rattle.th_notes.proofs.twins.add_pair_notes.Given as goal

abbrev pub invariant-loop-pair : goal.invariant-loop-pair
invariant-loop-pair l =
    l.notes.items ++ map (twin_note l.observations) (drop l.pair-index l.pairs.first.items) ≡ l.fn.notes.items ++ map (twin_note l.observations) l.pairs.first.items
