use Rattle.std.specs.Prelude.{◌≡◌, ◌<◌, ℕ, ℤ, List, All, unsigned_abs}
use Rattle.th_network.specs.Heights.{cost}
use Rattle.th_network.specs.Networks.{Survey}
use Rattle.th_blunders.specs.Residuals.{residual_limit, residuals}
use Rattle.th_blunders.specs.declared.fits.Fit.{Fit}

-- what a map of heights leaves of the observations of a survey, and what that costs
pub record IsFit (survey : Survey) (heights : List ℕ → ℤ) (fit : Fit) : Type 0 where
  pub residuals : fit.residuals.items ≡ residuals survey.observations heights
  pub small : All (λ residual. unsigned_abs residual < residual_limit) fit.residuals.items
  pub cost : fit.cost ≡ cost survey.observations survey.weights heights
