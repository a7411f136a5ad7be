use Rattle.std.specs.Prelude.{◌≡◌, ℕ, Bool, true, false, ℤ, pos, ◌-ℤ◌, List}
use Rattle.th_observations.specs.Observed.{Observed}
use Rattle.th_tables.specs.Rows.{WeightRows, weight_of}

-- an observation that leads out of a set of names has its whole weight as flow, and one that leads into it has its whole weight backwards
abbrev pub LeavesFull : (List ℕ → Bool) → WeightRows → Observed → ℤ → Type 0
LeavesFull inside weights o flow = (inside o.station ≡ true → inside o.target ≡ false → flow ≡ pos (weight_of weights o.station o.target)) × (inside o.station ≡ false → inside o.target ≡ true → flow ≡ pos 0 -ℤ pos (weight_of weights o.station o.target))
