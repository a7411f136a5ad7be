-- The last place below a bound that passes a test.
use Rattle.std.proofs.Common.{◌≡◌, ℕ, zero, suc, ◌<◌, Bool, true, false, cond, Some, None, refl, ◌∙◌, arith}
use Rattle.std.proofs.lemmas.Bool.{cond-false}
use Rattle.std.proofs.lemmas.Option.{none-some, same_Some}
use Rattle.th_book.specs.Places.{last_below}

-- the last place lies below the bound
pub last-lt : (test : ℕ → Bool) (bound place : ℕ) → last_below test bound ≡ Some place → place < bound
last-lt test zero place h = absurd (none-some place h)
last-lt test (suc bound) place h = go (test bound) h (last-lt test bound place)
  where
    go : (passes : Bool) → cond passes (Some bound) (last_below test bound) ≡ Some place → (last_below test bound ≡ Some place → place < bound) → place < suc bound
    go true e below = omega (arith, same_Some bound place e)
    go false e below = omega (arith, below e)

-- there is none where none passes
pub last-none : (test : ℕ → Bool) (bound : ℕ) → ((k : ℕ) → k < bound → test k ≡ false) → last_below test bound ≡ None
last-none test zero fails = refl
last-none test (suc bound) fails =
    cond-false (test bound) (Some bound) (last_below test bound) (fails bound (omega arith)) ∙ last-none test bound (λ k below. fails k (omega (arith, below)))
