use Rattle.std.specs.Prelude.{◌≡◌, ℕ, ◌*◌, ◌≤◌, ℤ, pos, ◌+ℤ◌, ◌*ℤ◌, List, None, All, fold, zip, if◌then◌else◌, bytes_eq, unsigned_abs}
use Rattle.std.specs.List.{AllZip}
use Rattle.th_observations.specs.Observed.{Observed}
use Rattle.th_tables.specs.Rows.{BenchmarkRows, WeightRows, height_of, weight_of}
use Rattle.th_points.specs.Points.{points}
use Rattle.th_network.specs.Heights.{residual}

-- the sum of `f` over a list
abbrev pub total_by : {X : Type 0} → (X → ℤ) → List X → ℤ
total_by f xs = fold (λ total x. total +ℤ f x) (pos 0) xs

-- the sum of the flows of the observations with this target
abbrev pub arriving : List Observed → List ℤ → List ℕ → ℤ
arriving observations flows point = total_by (λ pair. if bytes_eq pair.0.target point then pair.1 else pos 0) (zip observations flows)

-- the sum of the flows of the observations with this station
abbrev pub leaving : List Observed → List ℤ → List ℕ → ℤ
leaving observations flows point = total_by (λ pair. if bytes_eq pair.0.station point then pair.1 else pos 0) (zip observations flows)

-- one flow for each observation, at most its weight in size; at each point that is no benchmark as much arrives as leaves
pub record Circulation (observations : List Observed) (benchmarks : BenchmarkRows) (weights : WeightRows) (flows : List ℤ) : Type 0 where
  pub bounded : AllZip (λ o flow. unsigned_abs flow ≤ weight_of weights o.station o.target) observations flows
  pub balanced : All (λ point. height_of benchmarks point ≡ None → arriving observations flows point ≡ leaving observations flows point) (points observations benchmarks)

-- each flow is the whole weight, with the sign of the residual, where the residual is not zero
abbrev pub Shows : List Observed → WeightRows → List ℤ → (List ℕ → ℤ) → Type 0
Shows observations weights flows heights = AllZip (λ o flow. flow *ℤ residual o heights ≡ pos (weight_of weights o.station o.target * unsigned_abs (residual o heights))) observations flows
