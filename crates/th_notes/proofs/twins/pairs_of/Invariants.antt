use Rattle.std.proofs.Common.{◌≡◌, ◌++◌, [], List, drop, take}
use Rattle.th_observations.specs.Observed.{Observed}
use Rattle.th_entries.specs.Listed.{IsListed}
use Rattle.th_notes.specs.Inside.Sightings.{AreSightings}
use Rattle.th_notes.specs.Twins.{pairs_after}
use Rattle.th_notes.specs.declared.notes.Pair.{Pair}
use Rattle.th_notes.proofs.twins.pairs_of.Given as goal

abbrev pub invariant-loop-k : goal.invariant-loop-k
invariant-loop-k l =
    (observations : List Observed) → AreSightings observations l.sightings →
    (so_far : List Pair) × IsListed so_far l.pairs
    × (so_far ++ pairs_after observations (take l.k l.spots) (drop l.k l.spots) ≡ pairs_after observations [] l.spots)
