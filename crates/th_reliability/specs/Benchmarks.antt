use Rattle.std.specs.Prelude.{ℕ, Bool, ◌||◌, List, bytes_eq}
use Rattle.th_observations.specs.Observed.{Observed}

-- an observation has an end at the point
abbrev pub has_end : List ℕ → Observed → Bool
has_end point o = bytes_eq o.station point || bytes_eq o.target point
