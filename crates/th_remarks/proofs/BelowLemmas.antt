-- Counts of places below a bound.
use Rattle.std.proofs.Common.{◌≡◌, ◌⊎◌, inl, inr, ◌+◌, ◌<◌, ◌≤◌, ℕ, zero, suc, Bool, true, false, cond, ap, add-one, arith}
use Rattle.std.proofs.lemmas.Bool.{cases_lt}
use Rattle.th_entries.specs.Below.{count_below}

-- no more places are counted than there are
pub count-le : (test : ℕ → Bool) (n : ℕ) → count_below test n ≤ n
count-le test zero = omega arith
count-le test (suc n) = go (test n) (count-le test n)
  where
    go : (is : Bool) → count_below test n ≤ n → count_below test n + cond is 1 0 ≤ suc n
    go true small = omega (arith, small)
    go false small = omega (arith, small)

-- one place further
pub count_next : (test : ℕ → Bool) (n : ℕ) (is : Bool) → test n ≡ is → count_below test (n + 1) ≡ count_below test n + cond is 1 0
count_next test n is same = rw add-one (ap (λ (own : Bool). count_below test n + cond own 1 0) same)

-- a place below the next bound is below this one, or there
pub split : (place n : ℕ) → place < n + 1 → (place < n) ⊎ (place ≡ n)
split place n within = elim (cases_lt place n) [
  | inl below ↦ inl below
  | inr above ↦ inr (omega (arith, within, above))
]
