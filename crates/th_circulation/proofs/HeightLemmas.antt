-- Numbers of a list that stay within bounds.
use Rattle.std.proofs.Common.{◌≡◌, ℕ, zero, suc, ◌<◌, ◌≤◌, ◌+◌, ℤ, pos, ◌-ℤ◌, ◌≤ℤ◌, List, All, [], ◌∷◌, replicate, unsigned_abs, sym, subst, arith}
use Rattle.std.specs.Prelude.{slice_set}
use borrow.Author.Count.{below_more}
use Rattle.std.proofs.lemmas.Int.{ints}
use Rattle.std.proofs.lemmas.List.{get_or-replicate, get_or-set_other, length-replicate}
use Rattle.th_search.specs.Potentials.{value_at}
use Rattle.th_circulation.specs.Inside.Bounds.{HaveSmallRises, farthest, height_bound}
use Rattle.th_search.specs.Distances.{AreWithin}
use Rattle.th_search.proofs.WithinLemmas.{all_within}

set_here : (most : ℕ) (xs : List ℤ) (i : ℕ) (x : ℤ) → unsigned_abs x ≤ most → unsigned_abs (value_at (slice_set xs i x) i) ≤ most
set_here most [] i x h = omega arith
set_here most (y ∷ xs) zero x h = h
set_here most (y ∷ xs) (suc i) x h = set_here most xs i x h

pub near_more : (most : ℕ) (xs : List ℤ) (i : ℕ) (x : ℤ) → ((v : ℕ) → v < i → unsigned_abs (value_at xs v) ≤ most) → unsigned_abs x ≤ most → (v : ℕ) → v < i + 1 → unsigned_abs (value_at (slice_set xs i x) v) ≤ most
near_more most xs i x before here = below_more (λ v. unsigned_abs (value_at (slice_set xs i x) v) ≤ most) i (λ v h. subst (λ z. unsigned_abs z ≤ most) (sym (get_or-set_other xs i v x (pos 0) (λ e. omega arith))) (before v h)) (set_here most xs i x here)

-- zeros are within all bounds
pub none_within : (count most : ℕ) → AreWithin count most (replicate count (pos 0))
none_within count most = all_within count most (replicate count (pos 0)) (length-replicate count (pos 0)) (λ v h. let is = get_or-replicate count v (pos 0) (pos 0) h in subst (λ z. unsigned_abs z ≤ most) (sym is) (omega arith))

-- potentials, none of which is above 0, change no rise by more than `farthest`
pub raised_rises : (n : ℕ) (heights potentials raised : List ℤ) → 1 ≤ n → AreWithin n height_bound heights → AreWithin n farthest potentials → All (λ potential. potential ≤ℤ pos 0) potentials
    → ((v : ℕ) → value_at raised v ≡ value_at heights v -ℤ value_at potentials v) → HaveSmallRises n raised
raised_rises n heights potentials raised some near far high is v within =
    let sized = near.each in
    let long = far.each in
    let before = near.small v (pos 0) (omega arith) in
    let before_start = near.small 0 (pos 0) (omega arith) in
    let below = far.small v (pos 0) (omega arith) in
    let below_start = far.small 0 (pos 0) (omega arith) in
    let one_side = high v (pos 0) (omega arith) in
    let one_side_start = high 0 (pos 0) (omega arith) in
    let here = is v in
    let start = is 0 in
    omega (arith, ints)
