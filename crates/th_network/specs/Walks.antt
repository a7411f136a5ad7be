use Rattle.std.specs.Prelude.{◌≡◌, ℕ, ◌⊎◌, List, [], ◌∷◌, All, Contains, IsSome}
use Rattle.th_observations.specs.Observed.{Observed}
use Rattle.th_tables.specs.Rows.{BenchmarkRows, height_of}
use Rattle.th_points.specs.Points.{points}

-- the chain leads from one name to another: each of its observations, in either direction, begins where the one before it ended
abbrev pub Leads : List Observed → List ℕ → List ℕ → Type 0
Leads [] start goal = start ≡ goal
Leads (o ∷ chain) start goal = ((start ≡ o.station) × Leads chain o.target goal) ⊎ ((start ≡ o.target) × Leads chain o.station goal)

-- some chain of the observations, possibly empty, leads from one name to another
abbrev pub Walk : List Observed → List ℕ → List ℕ → Type 0
Walk observations start goal = (chain : List Observed) × All (Contains observations) chain × Leads chain start goal

-- a walk leads from the point to a benchmark
abbrev pub IsTied : List Observed → BenchmarkRows → List ℕ → Type 0
IsTied observations benchmarks point = (benchmark : List ℕ) × IsSome (height_of benchmarks benchmark) × Walk observations point benchmark

-- a walk leads from each point to a benchmark
abbrev pub Anchored : List Observed → BenchmarkRows → Type 0
Anchored observations benchmarks = All (IsTied observations benchmarks) (points observations benchmarks)
