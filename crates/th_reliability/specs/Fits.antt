-- What the laws suppose of true heights: what fits them, and how the rest errs.
use Rattle.std.specs.Prelude.{◌≡◌, ℕ, ℤ, pos, Bool, true, false, List, All}
use Rattle.th_observations.specs.Observed.{Observed}
use Rattle.th_tables.specs.Rows.{BenchmarkRows}
use Rattle.th_network.specs.Heights.{IsHeights, residual}
use Rattle.th_network.specs.Networks.{Survey}
use Rattle.th_reliability.specs.Moves.{IsOffAt}

-- the heights keep the benchmarks, and all these observations fit them exactly
pub record AllFit (observations : List Observed) (benchmarks : BenchmarkRows) (heights : List ℕ → ℤ) : Type 0 where
  pub kept : IsHeights benchmarks heights
  pub fit : All (λ o. residual o heights ≡ pos 0) observations

-- the heights keep the benchmarks, and all observations outside the group fit them exactly
pub record AllElseFits (survey : Survey) (group : Observed → Bool) (heights : List ℕ → ℤ) : Type 0 where
  pub kept : IsHeights survey.benchmarks heights
  pub fit : All (λ o. group o ≡ false → residual o heights ≡ pos 0) survey.observations

-- the sights of the group are of one station, and all err by the same from the heights
pub record ErrAlike (survey : Survey) (group : Observed → Bool) (station : List ℕ) (error : ℤ) (heights : List ℕ → ℤ) : Type 0 where
  pub from : All (λ o. group o ≡ true → o.station ≡ station) survey.observations
  pub err : All (λ o. group o ≡ true → residual o heights ≡ error) survey.observations

-- the heights keep the benchmarks but one, whose height in the table is off by the error, and all observations fit them exactly
pub record FitsButAt (survey : Survey) (point : List ℕ) (error : ℤ) (heights : List ℕ → ℤ) : Type 0 where
  pub off : IsOffAt survey.benchmarks point error heights
  pub fit : All (λ o. residual o heights ≡ pos 0) survey.observations
