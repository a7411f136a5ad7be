use Rattle.std.specs.Prelude.{◌≡◌, ℕ, ℤ, pos, ◌≤ℤ◌, ◌<ℤ◌, List}
use Rattle.std.specs.List.{AllZip}
use Rattle.th_observations.specs.Observed.{Observed}
use Rattle.th_network.specs.Heights.{residual}

-- an observation between the same points that errs as before, or further to the same side; one that fits the heights stays as it is
pub record ErrsFurther (heights : List ℕ → ℤ) (o misread : Observed) : Type 0 where
  pub station : misread.station ≡ o.station
  pub target : misread.target ≡ o.target
  pub above : pos 0 <ℤ residual o heights → o.difference ≤ℤ misread.difference
  pub below : residual o heights <ℤ pos 0 → misread.difference ≤ℤ o.difference
  pub fits : residual o heights ≡ pos 0 → misread.difference ≡ o.difference

-- each observation errs as before, or further to the same side
abbrev pub AreMisread : (List ℕ → ℤ) → List Observed → List Observed → Type 0
AreMisread heights observations misread = AllZip (ErrsFurther heights) observations misread
