-- Numbers of a list that stay within bounds.
use Rattle.std.proofs.Common.{◌≡◌, ℕ, zero, suc, ◌<◌, ◌≤◌, ℤ, pos, List, [], ◌∷◌, length, unsigned_abs, refl, ap, sym, subst, take, drop, ◌++◌, arith}
use Rattle.std.specs.Prelude.{slice_index_or, slice_set}
use Rattle.th_search.specs.Potentials.{value_at}
use Rattle.th_search.specs.Distances.{AreWithin}

pub set_any : (most : ℕ) (xs : List ℤ) (i : ℕ) (x : ℤ) (v : ℕ) → unsigned_abs x ≤ most → unsigned_abs (value_at xs v) ≤ most → unsigned_abs (value_at (slice_set xs i x) v) ≤ most
set_any most [] i x v h k = k
set_any most (y ∷ xs) zero x zero h k = h
set_any most (y ∷ xs) zero x (suc v) h k = k
set_any most (y ∷ xs) (suc i) x zero h k = k
set_any most (y ∷ xs) (suc i) x (suc v) h k = set_any most xs i x v h k

-- from each place to all
pub all_within : (count most : ℕ) (xs : List ℤ) → length xs ≡ count → ((v : ℕ) → v < count → unsigned_abs (value_at xs v) ≤ most) → AreWithin count most xs
all_within count most xs long each = record { each = long; small = λ k d within. subst (λ z. unsigned_abs z ≤ most) (same xs k d within) (each k (omega arith)) }
  where
    same : (xs : List ℤ) (k : ℕ) (d : ℤ) → k < length xs → slice_index_or xs k (pos 0) ≡ slice_index_or xs k d
    same [] k d h = absurd (omega arith)
    same (x ∷ xs) zero d h = refl
    same (x ∷ xs) (suc k) d h = same xs k d (omega arith)

-- a slice that was lent from a list and has its length is the list afterwards
pub written : (n : ℕ) (xs ys : List ℤ) → length xs ≡ length ys → n ≡ length ys → take n (xs ++ drop (length xs) ys) ≡ xs
written n [] [] h k = subst (λ (m : ℕ). take m ([] ++ drop 0 (let none : List ℤ = [] in none)) ≡ []) (sym k) refl
written n [] (y ∷ ys) h k = absurd (omega arith)
written n (x ∷ xs) [] h k = absurd (omega arith)
written zero (x ∷ xs) (y ∷ ys) h k = absurd (omega arith)
written (suc n) (x ∷ xs) (y ∷ ys) h k = ap (λ zs. x ∷ zs) (written n xs ys (omega arith) (omega arith))
