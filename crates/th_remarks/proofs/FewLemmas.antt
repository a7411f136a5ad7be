-- There are no more notes than books and points.
use Rattle.std.proofs.Common.{◌≤◌, ◌+◌, ◌++◌, ◌∷◌, [], List, None, Some, ℕ, length, arith, length-append}
use Rattle.std.specs.Prelude.{Option, option_to_list}
use Rattle.std.specs.List.{flat_map}
use Rattle.th_observations.specs.Observed.{Observed}
use Rattle.th_remarks.specs.Alike.{alike_after, alike_with}

one_at_most : {X : Type 0} (x : Option X) → length (option_to_list x) ≤ 1
one_at_most None = omega arith
one_at_most (Some x) = omega arith

pub few_found : {X : Type 0} (found : List (Option X)) → length (flat_map option_to_list found) ≤ length found
few_found [] = omega arith
few_found (x ∷ xs) = omega (arith, length-append (option_to_list x) (flat_map option_to_list xs), one_at_most x, few_found xs)

pub few_alike : (observations : List Observed) (before rest : List (List ℕ)) → length (alike_after observations before rest) ≤ length rest
few_alike observations before [] = omega arith
few_alike observations before (name ∷ rest) =
    let here = one_at_most (alike_with observations before name) in
    let later = few_alike observations (before ++ name ∷ []) rest in
    let both = length-append (option_to_list (alike_with observations before name)) (alike_after observations (before ++ name ∷ []) rest) in
    omega (arith, here, later, both)
