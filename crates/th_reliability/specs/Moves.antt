use Rattle.std.specs.Prelude.{◌≡◌, ◌≢◌, ℕ, ◌≤◌, ℤ, pos, ◌+ℤ◌, ◌-ℤ◌, ◌⊎◌, Bool, true, false, List, Some, bytes_eq, if◌then◌else◌}
use Rattle.th_observations.specs.Observed.{Observed}
use Rattle.th_tables.specs.Rows.{BenchmarkRows, height_of}
use Rattle.th_network.specs.Heights.{residual}
use Rattle.th_network.specs.Networks.{Survey}
use Rattle.th_reliability.specs.SharedMistakes.{IsLeastSet, own, rest}

-- a mistake at a point: an observation from the point errs by it from the heights, or one to the point by its negative
abbrev pub ErrsAt : List ℕ → ℤ → (List ℕ → ℤ) → Observed → Type 0
ErrsAt point error heights o = ((o.station ≡ point) × (residual o heights ≡ error)) ⊎ ((o.target ≡ point) × (residual o heights ≡ pos 0 -ℤ error))

-- how far a mistake at a point moves a set: by the mistake if the set does not contain the point, else by its negative
abbrev pub way : Bool → ℤ → ℤ
way true error = pos 0 -ℤ error
way false error = error

-- the heights, so much more at the names in the set
abbrev pub moved : (List ℕ → Bool) → ℤ → (List ℕ → ℤ) → List ℕ → ℤ
moved inside more heights name = heights name +ℤ (if inside name then more else pos 0)

-- an observation with a mistake at the point, if it is of the group: its difference is more by the mistake if it is from the point, and else less by it
abbrev pub erred : (Observed → Bool) → List ℕ → ℤ → Observed → Observed
erred group point error o = record o { difference = o.difference +ℤ (if group o then (if bytes_eq o.station point then error else pos 0 -ℤ error) else pos 0) }

-- the heights, with another one at the point
abbrev pub with_height : List ℕ → ℤ → (List ℕ → ℤ) → List ℕ → ℤ
with_height point height heights name = if bytes_eq name point then height else heights name

-- the benchmark has a height that is off by the error, and all other benchmarks have the heights
pub record IsOffAt (benchmarks : BenchmarkRows) (point : List ℕ) (error : ℤ) (heights : List ℕ → ℤ) : Type 0 where
  pub here : height_of benchmarks point ≡ Some (heights point +ℤ error)
  pub others : (name : List ℕ) (height : ℤ) → name ≢ point → height_of benchmarks name ≡ Some height → heights name ≡ height

-- a least set that the others cut with no more weight than the group: a mistake that the group shares can move it
pub record IsMovable (survey : Survey) (group : Observed → Bool) (inside : List ℕ → Bool) : Type 0 where
  pub is : IsLeastSet survey group inside
  pub light : rest survey group inside ≤ own survey group inside
