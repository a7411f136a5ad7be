use Rattle.std.proofs.Common.{◌≡◌, ◌<◌, ◌-◌, ◌/◌, ◌^◌, ℕ, List, length, arith}
use Rattle.std.proofs.lemmas.List.Elements.{All-get_or}
use Rattle.std.proofs.lemmas.List.Sorted.{All-permutation, IsNonDecreasingBy-from_sort}
use Rattle.th_remarks.proofs.MedianLemmas.{middle, reordered}
use Rattle.th_remarks.proofs.outlying.median.Goals as goal

pub returns-clause-median : goal.returns-clause-median
returns-clause-median c =
    let sorted : List ℕ = c.sort_unstable.new.self in
    let some : 0 < length sorted = omega (arith, c.requires.some, c.sort_unstable.ensures.len) in
    reordered c.args.sizes.now sorted _ c.sort_unstable.ensures.permutation
    (middle sorted ((length sorted - 1) / 2) (IsNonDecreasingBy-from_sort (λ (size : ℕ). size) sorted c.sort_unstable.ensures.sorted) (omega (arith, some)) (omega (arith, some)) (omega (arith, some)))

pub returns-clause-short : goal.returns-clause-short
returns-clause-short c =
    let sorted : List ℕ = c.sort_unstable.new.self in
    let some : 0 < length sorted = omega (arith, c.requires.some, c.sort_unstable.ensures.len) in
    All-get_or (λ (size : ℕ). size < 2 ^ 96) sorted ((length sorted - 1) / 2) 0 (omega (arith, some)) (All-permutation (λ (size : ℕ). size < 2 ^ 96) _ _ c.sort_unstable.ensures.permutation c.requires.short)

pub returns-clause-positive : goal.returns-clause-positive
returns-clause-positive c =
    let sorted : List ℕ = c.sort_unstable.new.self in
    let some : 0 < length sorted = omega (arith, c.requires.some, c.sort_unstable.ensures.len) in
    All-get_or (λ (size : ℕ). 0 < size) sorted ((length sorted - 1) / 2) 0 (omega (arith, some)) (All-permutation (λ (size : ℕ). 0 < size) _ _ c.sort_unstable.ensures.permutation c.requires.positive)
