-- The sums of what a check reads.
use Rattle.std.proofs.Common.{◌≡◌, ◌+◌, ◌++◌, ℕ, List, [], ◌∷◌, Ok, Err, Some, None, true, ap, refl}
use Rattle.std.specs.Prelude.{IfOk, IfSome, OnOk, Option, Result, is_some, option_map}
use Rattle.th_inputs.specs.declared.inputs.Input.TheVariants.{Book}
use Rattle.th_inputs.specs.declared.sums.Sum.{Sum}
use Rattle.th_observations.specs.Observed.{Observed}
use Rattle.th_run_parts.specs.Inputs.{Claim}
use Rattle.th_run_parts.specs.Readers.{HasReadBooks}
use Rattle.th_run_parts.specs.Summed.{AreBooksSummed, IsSummedNext}

-- books that were read one after the other by a reader of sums are summed
pub books_summed : {R : Type 0} (sums : R → List Sum) (number : ℕ) (tolds : List (Option (List ℕ))) (before after : List Observed) (old new : R)
    → HasReadBooks (λ own told observations first second. IsSummedNext (Book own) told (sums first) (sums second)) number tolds before after old new
    → AreBooksSummed number tolds (sums old) (sums new)
books_summed sums number [] before after old new (same, is) = ap sums is
books_summed sums number (told ∷ tolds) before after old new (mid, observations, next, rest) =
    (sums mid, next, books_summed sums (number + 1) tolds (before ++ observations) after mid new rest)

-- so they are where the inputs of a check were read
pub books_of : {R E : Type 0} (P : Type 0) (sums : R → List Sum) (tolds : List (Option (List ℕ))) (old new : R) (result : Result Claim E)
    → IfOk result (λ claim. HasReadBooks (λ own told observations first second. IsSummedNext (Book own) told (sums first) (sums second)) 1 tolds [] claim.survey.observations old new)
    → OnOk result (P → AreBooksSummed 1 tolds (sums old) (sums new))
books_of P sums tolds old new (Ok claim) read = λ wanted. books_summed sums 1 tolds [] claim.survey.observations old new read
books_of P sums tolds old new (Err own) read = tt

-- what holds where names are given
pub if_named : {A B : Type 0} (names : Option A) (view : A → B) (P : Type 0) → (is_some names ≡ true → P) → IfSome (option_map view names) (λ own. P)
if_named None view P holds = tt
if_named (Some own) view P holds = holds refl
