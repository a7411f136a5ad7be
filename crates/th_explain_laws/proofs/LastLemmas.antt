-- The last place below a bound that passes a test.
use Rattle.std.proofs.Common.{◌≡◌, ℕ, zero, suc, ◌<◌, ◌≤◌, ◌⊎◌, inl, inr, Bool, true, false, cond, Some, refl, sym, ap, ◌∙◌, arith}
use Rattle.std.proofs.lemmas.Bool.{cases_order, cond-false, cond-true}
use Rattle.std.proofs.lemmas.Option.{none-some, same_Some}
use Rattle.th_book.specs.Places.{last_below}

-- it passes the test
pub last-true : (test : ℕ → Bool) (bound place : ℕ) → last_below test bound ≡ Some place → test place ≡ true
last-true test zero place h = absurd (none-some place h)
last-true test (suc bound) place h = go (test bound) refl h (last-true test bound place)
  where
    go : (passes : Bool) → test bound ≡ passes → cond passes (Some bound) (last_below test bound) ≡ Some place → (last_below test bound ≡ Some place → test place ≡ true) → test place ≡ true
    go true is e below = ap test (sym (same_Some bound place e)) ∙ is
    go false is e below = below e

-- none behind it does
pub last-after : (test : ℕ → Bool) (bound place k : ℕ) → last_below test bound ≡ Some place → place < k → k < bound → test k ≡ false
last-after test zero place k h after below = absurd (none-some place h)
last-after test (suc bound) place k h after below = go (test bound) refl h (cases_order k bound) (last-after test bound place k)
  where
    go : (passes : Bool) → test bound ≡ passes → cond passes (Some bound) (last_below test bound) ≡ Some place → (k ≡ bound) ⊎ ((k < bound) ⊎ (bound < k)) → (last_below test bound ≡ Some place → place < k → k < bound → test k ≡ false) → test k ≡ false
    go true is e order rest = absurd (omega (arith, same_Some bound place e, after, below))
    go false is e (inl same) rest = ap test same ∙ is
    go false is e (inr (inl before)) rest = rest e after before
    go false is e (inr (inr behind)) rest = absurd (omega (arith, behind, below))

-- which says which place it is
pub last-is : (test : ℕ → Bool) (bound place : ℕ) → place < bound → test place ≡ true → ((k : ℕ) → place < k → k < bound → test k ≡ false) → last_below test bound ≡ Some place
last-is test zero place within passes fails = absurd (omega (arith, within))
last-is test (suc bound) place within passes fails = go (cases_order place bound) (λ before. last-is test bound place before passes (λ k after below. fails k after (omega (arith, below))))
  where
    go : (place ≡ bound) ⊎ ((place < bound) ⊎ (bound < place)) → (place < bound → last_below test bound ≡ Some place) → last_below test (suc bound) ≡ Some place
    go (inl same) rest = cond-true (test bound) (Some bound) (last_below test bound) (ap test (sym same) ∙ passes) ∙ ap Some (sym same)
    go (inr (inl before)) rest = cond-false (test bound) (Some bound) (last_below test bound) (fails bound before (omega arith)) ∙ rest before
    go (inr (inr behind)) rest = absurd (omega (arith, behind, within))

-- places that none passes change nothing
pub last-stays : (test : ℕ → Bool) (low bound : ℕ) → low ≤ bound → ((k : ℕ) → low ≤ k → k < bound → test k ≡ false) → last_below test bound ≡ last_below test low
last-stays test low zero less fails = let same : zero ≡ low = omega arith in ap (last_below test) same
last-stays test low (suc bound) less fails = go (cases_order low (suc bound)) (λ before. last-stays test low bound before (λ k after below. fails k after (omega (arith, below))))
  where
    go : (low ≡ suc bound) ⊎ ((low < suc bound) ⊎ (suc bound < low)) → (low ≤ bound → last_below test bound ≡ last_below test low) → last_below test (suc bound) ≡ last_below test low
    go (inl same) rest = sym (ap (last_below test) same)
    go (inr (inl before)) rest =
        let within : low ≤ bound = omega (arith, before) in
        cond-false (test bound) (Some bound) (last_below test bound) (fails bound within (omega arith)) ∙ rest within
    go (inr (inr behind)) rest = absurd (omega (arith, behind, less))

-- two tests that agree below the bound have one last place
pub last-same : (test other : ℕ → Bool) (bound : ℕ) → ((k : ℕ) → k < bound → test k ≡ other k) → last_below test bound ≡ last_below other bound
last-same test other zero same = refl
last-same test other (suc bound) same =
    ap (λ passes. cond passes (Some bound) (last_below test bound)) (same bound (omega arith))
    ∙ ap (λ last. cond (other bound) (Some bound) last) (last-same test other bound (λ k below. same k (omega arith)))

-- a place that passes has a last one at it or behind it
pub last-some : (test : ℕ → Bool) (bound place : ℕ) → place < bound → test place ≡ true → (last : ℕ) × (last_below test bound ≡ Some last) × (place ≤ last)
last-some test zero place within passes = absurd (omega arith)
last-some test (suc bound) place within passes = go (test bound) refl (cases_order place bound) (last-some test bound place)
  where
    go : (own : Bool) → test bound ≡ own → (place ≡ bound) ⊎ ((place < bound) ⊎ (bound < place))
        → (place < bound → test place ≡ true → (last : ℕ) × (last_below test bound ≡ Some last) × (place ≤ last))
        → (last : ℕ) × (cond own (Some bound) (last_below test bound) ≡ Some last) × (place ≤ last)
    go true is order rest = (bound, refl, omega arith)
    go false is (inl same) rest = absurd (let never : true ≡ false = sym passes ∙ ap test same ∙ is in cc never)
    go false is (inr (inl before)) rest = rest before passes
    go false is (inr (inr behind)) rest = absurd (omega arith)
