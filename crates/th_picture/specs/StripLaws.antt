-- Laws of the strip.
use Rattle.std.specs.Prelude.{◌≡◌, ◌≤◌, ◌*◌, ℕ, ℤ, false, All, List, unsigned_abs}
use Rattle.th_blunders.specs.Blunders.{is_blunder}
use Rattle.th_picture.specs.Strips.{half_of, offset}
use Rattle.th_picture.specs.declared.drawn.DrawnSight.{DrawnSight}

-- bars stay inside the strip, and show how large residuals are
pub record AreToScale : Type 0 where
  -- a bar of a residual within the limit is at most half as long as the longest
  pub within : (limit : ℤ) (sights : List DrawnSight)
      → All (λ sight. is_blunder limit sight.row.residual ≡ false → unsigned_abs sight.row.residual ≤ half_of limit sights) sights
  pub shown : (half size : ℕ) → size ≤ half → offset half size ≤ 275
  -- no bar is longer than the longest, and one of twice the size is
  pub inside : (half size : ℕ) → offset half size ≤ 550
  pub full : (half size : ℕ) → 1 ≤ half → 2 * half ≤ size → offset half size ≡ 550
  -- and what is larger is not shown shorter
  pub longer : (half size other : ℕ) → size ≤ other → offset half size ≤ offset half other
