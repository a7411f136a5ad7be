use Rattle.std.proofs.Common.{◌++◌, List, take}
use Rattle.th_observations.specs.Observed.{Observed}
use Rattle.th_entries.specs.Listed.{IsListed}
use Rattle.th_notes.specs.Inside.Sightings.{AreSightings}
use Rattle.th_notes.specs.Twins.{pairs_with}
use Rattle.th_notes.specs.declared.notes.Pair.{Pair}
use Rattle.th_notes.proofs.twins.add_pairs.Given as goal

abbrev pub invariant-loop-earlier : goal.invariant-loop-earlier
invariant-loop-earlier l =
    (observations : List Observed) (so_far : List Pair) → AreSightings observations l.sightings → IsListed so_far l.fn.pairs
    → IsListed (so_far ++ pairs_with observations (take l.earlier-index l.before) l.spot) l.pairs
