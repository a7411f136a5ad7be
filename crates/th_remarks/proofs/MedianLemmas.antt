-- The median of numbers that do not fall.
use Rattle.std.proofs.Common.{◌≡◌, ◌<◌, ◌≤◌, ◌+◌, ◌-◌, ◌*◌, ◌∙◌, ℕ, zero, suc, Bool, true, false, cond, List, get_or, length, take, inl, inr, ap, sym, add-one, arith}
use Rattle.std.specs.Prelude.{nat_le, nat_lt}
use Rattle.std.specs.List.{count_by}
use Rattle.std.specs.List.Sorted.{IsNonDecreasing, IsPermutation}
use Rattle.std.proofs.lemmas.Bool.{cases_lt, le-leb, le-ltb, lt-leb, lt-ltb}
use Rattle.std.proofs.lemmas.List.{length-take-le, take_all}
use Rattle.std.proofs.lemmas.List.Sorted.{length_permutation, sum_by-IsPermutation}
use Rattle.std.proofs.lemmas.List.Sums.{count_by-le-length, count_by_more_no, count_by_more_yes, sum_by-le-sum_by, sum_by-take-le}
use Rattle.th_remarks.specs.Outliers.{IsMedian}

module _ {X : Type 0} (p : X → Bool) (xs : List X) (d : X) where
  -- no more pass than there are places before those that all fail
  few_pass : (k : ℕ) → ((i : ℕ) → k ≤ i → i < length xs → p (get_or xs i d) ≡ false) → (j : ℕ) → j ≤ length xs → count_by p (take j xs) ≤ k
  few_pass k fails zero within = omega arith
  few_pass k fails (suc j) within = elim (cases_lt j k) [
    | inl below ↦ omega (arith, count_by-le-length p (take (suc j) xs), length-take-le (suc j) xs within)
    | inr above ↦
        let same = rw add-one at (count_by_more_no p xs j d (omega arith) (fails j above (omega arith))) in
        let before = few_pass k fails j (omega arith) in
        omega (arith, same, before)
  ]

  -- all places of a front count that pass
  all_pass : (j : ℕ) → ((i : ℕ) → i < j → p (get_or xs i d) ≡ true) → j ≤ length xs → count_by p (take j xs) ≡ j
  all_pass zero pass within = omega arith
  all_pass (suc j) pass within =
      let more = rw add-one at (count_by_more_yes p xs j d (omega arith) (pass j (omega arith))) in
      let before = all_pass j (λ i earlier. pass i (omega arith)) (omega arith) in
      omega (arith, more, before)

-- the number in the middle of some that do not fall
pub middle : (xs : List ℕ) (k : ℕ) → IsNonDecreasing xs → k < length xs → 2 * k < length xs → length xs ≤ 2 * (k + 1) → IsMedian xs (get_or xs k 0)
middle xs k rising within low high = record {
  smaller = omega (arith, whole_smaller, low);
  not_larger = omega (arith, front, part, high);
}
  where
    median : ℕ
    median = get_or xs k 0

    smaller : ℕ → Bool
    smaller size = nat_lt size median

    not_larger : ℕ → Bool
    not_larger size = nat_le size median

    whole_smaller : count_by smaller xs ≤ k
    whole_smaller =
        let part = few_pass smaller xs 0 k (λ i from within. le-ltb (get_or xs i 0) median (rising k i 0 from within)) (length xs) (omega arith) in
        rw (← ap (count_by smaller) (take_all (length xs) xs (omega arith))) part

    front : count_by not_larger (take (k + 1) xs) ≡ k + 1
    front = all_pass not_larger xs 0 (k + 1) (λ i below. le-leb (get_or xs i 0) median (rising i k 0 (omega arith) within)) (omega arith)

    part : count_by not_larger (take (k + 1) xs) ≤ count_by not_larger xs
    part = sum_by-take-le _ xs (k + 1)

-- numbers in another order have the same median
pub reordered : (xs ys : List ℕ) (median : ℕ) → IsPermutation xs ys → IsMedian ys median → IsMedian xs median
reordered xs ys median moved is = record {
  smaller = omega (arith, is.smaller, length_permutation xs ys moved, sum_by-IsPermutation (λ size. cond (nat_lt size median) 1 0) xs ys moved);
  not_larger = omega (arith, is.not_larger, length_permutation xs ys moved, sum_by-IsPermutation (λ size. cond (nat_le size median) 1 0) xs ys moved);
}

-- numbers have one median
no_smaller : (xs : List ℕ) (a b : ℕ) → IsMedian xs a → IsMedian xs b → a < b → ⊥
no_smaller xs a b small large below =
    omega (arith, small.not_larger, large.smaller, sum_by-le-sum_by (λ size. cond (nat_le size a) 1 0) (λ size. cond (nat_lt size b) 1 0) xs each)
  where
    each : (size : ℕ) → cond (nat_le size a) 1 0 ≤ cond (nat_lt size b) 1 0
    each size = elim (cases_lt a size) [
      | inl above ↦ rw (lt-leb size a above) (omega arith)
      | inr within ↦ rw (le-leb size a within, lt-ltb size b (omega arith)) (omega arith)
    ]

pub one_median : (xs : List ℕ) (a b : ℕ) → IsMedian xs a → IsMedian xs b → a ≡ b
one_median xs a b first second = elim (cases_lt a b) [
  | inl below ↦ absurd (no_smaller xs a b first second below)
  | inr above ↦ elim (cases_lt b a) [
    | inl other ↦ absurd (no_smaller xs b a second first other)
    | inr same ↦ omega (arith, above, same)
  ]
]
