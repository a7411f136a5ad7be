use Rattle.std.specs.Prelude.{ℕ, ℤ, ◌*◌, List, map}
use Rattle.th_observations.specs.Observed.{Observed}
use Rattle.th_network.specs.Heights.{residual}
use Rattle.th_network.specs.Limits.{height_limit}

-- a bound, with a margin, that every residual stays below in size: an observed difference and two heights sum to less
abbrev pub residual_limit : ℕ
residual_limit = 10 * height_limit

-- the residuals of observations at a map of heights, in the order of the observations
abbrev pub residuals : List Observed → (List ℕ → ℤ) → List ℤ
residuals observations heights = map (λ o. residual o heights) observations
