-- How many of some items pass, if those that do are in a row.
use Rattle.std.proofs.Common.{◌≡◌, ℕ, zero, suc, ◌+◌, ◌-◌, ◌<◌, ◌≤◌, Bool, true, false, List, [], ◌∷◌, cond, count_by, get_or, length, ap, arith}
use Rattle.std.proofs.lemmas.List.Sums.{sum_by-cons}

one_more : {X : Type 0} (p : X → Bool) (x : X) (xs : List X) (b : Bool) → p x ≡ b → count_by p (x ∷ xs) ≡ cond b 1 0 + count_by p xs
one_more p x xs b e =
    let more = sum_by-cons (λ x. cond (p x) 1 0) x xs in
    let own = ap {B = ℕ} (λ b. cond b 1 0) e in
    omega (arith, more, own)

pub counted_between : {X : Type 0} (p : X → Bool) (xs : List X) (start end : ℕ) → start ≤ end → end ≤ length xs → ((k : ℕ) (d : X) → k < start → p (get_or xs k d) ≡ false)
    → ((k : ℕ) (d : X) → end ≤ k → k < length xs → p (get_or xs k d) ≡ false) → ((k : ℕ) (d : X) → start ≤ k → k < end → p (get_or xs k d) ≡ true) → count_by p xs ≡ end - start
counted_between p [] start end order within below above inside = omega (arith, order, within)
counted_between p (x ∷ xs) (suc start) zero order within below above inside = absurd (omega (arith, order))
counted_between p (x ∷ xs) (suc start) (suc end) order within below above inside =
    let rest = counted_between p xs start end (omega (arith, order)) (omega (arith, within)) (λ k d less. below (suc k) d (omega (arith, less)))
    (λ k d past here. above (suc k) d (omega (arith, past)) (omega (arith, here))) (λ k d from to. inside (suc k) d (omega (arith, from)) (omega (arith, to))) in
    let more = one_more p x xs false (below 0 x (omega arith)) in
    omega (arith, more, rest)
counted_between p (x ∷ xs) zero zero order within below above inside =
    let rest = counted_between p xs 0 0 (omega arith) (omega arith) (λ k d less. absurd (omega (arith, less)))
    (λ k d past here. above (suc k) d (omega arith) (omega (arith, here))) (λ k d from to. absurd (omega (arith, to))) in
    let more = one_more p x xs false (above 0 x (omega arith) (omega arith)) in
    omega (arith, more, rest)
counted_between p (x ∷ xs) zero (suc end) order within below above inside =
    let rest = counted_between p xs 0 end (omega arith) (omega (arith, within)) (λ k d less. absurd (omega (arith, less)))
    (λ k d past here. above (suc k) d (omega (arith, past)) (omega (arith, here))) (λ k d from to. inside (suc k) d (omega arith) (omega (arith, to))) in
    let more = one_more p x xs true (inside 0 x (omega arith) (omega arith)) in
    omega (arith, more, rest)
