-- What was found of numbers, compared with a lesser amount.
use Rattle.std.proofs.Common.{◌≡◌, ◌≤◌, ◌<◌, inl, inr, ℕ, ℤ, Bool, true, false, if◌then◌else◌, List, [], ◌∷◌, Option, None, Some, map, nat_lt, refl, subst, sym, arith}
use Rattle.std.proofs.lemmas.Bool.Decides.{nat_tests}
use Rattle.std.specs.List.{AllZip}
use Rattle.th_network.specs.Networks.{Survey}
use Rattle.th_numbers.specs.declared.candidates.Candidate.{Candidate}
use Rattle.th_explain_rows.specs.Inside.Growing.{AreLowered, IsNoMore, lowered}
use Rattle.th_explain_rows.specs.Inside.Passing.{IsFinding, IsNoChangeOr}
use Rattle.th_explain_rows.specs.declared.finder.Finding.{Finding}
use Rattle.th_explain_rows.specs.declared.finder.Finding.TheVariants.{Exactly, Mild, More, AtLeast}

pub no_more_same : (least : Option ℕ) → IsNoMore least least
no_more_same None = tt
no_more_same (Some least) = omega arith

pub no_more_then : (first second third : Option ℕ) → IsNoMore first second → IsNoMore second third → IsNoMore first third
no_more_then None None third less more = more
no_more_then None (Some second) third less more = absurd less
no_more_then (Some first) None None less more = tt
no_more_then (Some first) None (Some third) less more = absurd more
no_more_then (Some first) (Some second) None less more = tt
no_more_then (Some first) (Some second) (Some third) less more = omega (arith, less, more)

-- numbers that were compared with a lesser amount, or with the same one
pub no_more_of : (least left : Option ℕ) (before after : List Finding) → AreLowered least left before after → IsNoMore left least
no_more_of least left before after (inl (same, all)) = subst (λ own. IsNoMore own least) (sym same) (no_more_same least)
no_more_of least left before after (inr (less, all)) = less

module _ (survey : Survey) (limit : ℤ) where
  -- a number that leaves at least the greater amount leaves more than the lesser
  more_if : (least left : ℕ) (candidate : Candidate) (is_less : Bool) → (is_less ≡ true → left < least) → left ≤ least
      → IsFinding survey limit (Some least) candidate AtLeast → IsFinding survey limit (Some left) candidate (if is_less then More else AtLeast)
  more_if least left candidate true less no_more is = λ freed passes. let below = less refl in let above = is freed passes in omega (arith, below, above)
  more_if least left candidate false less no_more is = λ freed passes. let above = is freed passes in omega (arith, no_more, above)

  pub lowered_is : (least left : Option ℕ) (candidate : Candidate) (finding : Finding) → IsNoMore left least → IsFinding survey limit least candidate finding → IsFinding survey limit left candidate (lowered least left finding)
  lowered_is least left candidate (Exactly freed) no_more is = is
  lowered_is None None candidate Mild no_more is = is
  lowered_is None (Some left) candidate Mild no_more is = λ freed passes. absurd (is freed passes)
  lowered_is (Some least) None candidate Mild no_more is = absurd no_more
  lowered_is (Some least) (Some left) candidate Mild no_more is = λ freed passes. let above = is freed passes in omega (arith, no_more, above)
  lowered_is None None candidate More no_more is = is
  lowered_is None (Some left) candidate More no_more is = λ freed passes. absurd (is freed passes)
  lowered_is (Some least) None candidate More no_more is = absurd no_more
  lowered_is (Some least) (Some left) candidate More no_more is = λ freed passes. let above = is freed passes in omega (arith, no_more, above)
  lowered_is None None candidate AtLeast no_more is = is
  lowered_is None (Some left) candidate AtLeast no_more is = λ freed passes. absurd (is freed passes)
  lowered_is (Some least) None candidate AtLeast no_more is = absurd no_more
  lowered_is (Some least) (Some left) candidate AtLeast no_more is = more_if least left candidate (nat_lt left least) (λ yes. grind (arith, nat_tests, yes)) no_more is

  pub other_lowered : (least left : Option ℕ) (candidate : Candidate) (finding : Finding) → IsNoMore left least → IsNoChangeOr survey limit least candidate finding → IsNoChangeOr survey limit left candidate (lowered least left finding)
  other_lowered least left candidate finding no_more is = λ none. lowered_is least left candidate finding no_more (is none)

-- what is kept as an amount gets less for one number is kept for all
module _ (R : Option ℕ → Candidate → Finding → Type 0) (least left : Option ℕ) (each : (candidate : Candidate) (finding : Finding) → IsNoMore left least → R least candidate finding → R left candidate (lowered least left finding)) where
  all_lowered : (candidates : List Candidate) (findings : List Finding) → IsNoMore left least → AllZip (R least) candidates findings → AllZip (R left) candidates (map (lowered least left) findings)
  all_lowered [] [] no_more all = all
  all_lowered [] (own ∷ findings) no_more all = absurd all
  all_lowered (candidate ∷ candidates) [] no_more all = absurd all
  all_lowered (candidate ∷ candidates) (own ∷ findings) no_more all = (each candidate own no_more all.0, all_lowered candidates findings no_more all.1)

  pub all_grown : (candidates : List Candidate) (before after : List Finding) → AreLowered least left before after → AllZip (R least) candidates before → AllZip (R left) candidates after
  all_grown candidates before after (inl (same, is)) all = subst (λ own. AllZip (R own) candidates after) (sym same) (subst (AllZip (R least) candidates) (sym is) all)
  all_grown candidates before after (inr (no_more, is)) all = subst (AllZip (R left) candidates) (sym is) (all_lowered candidates before no_more all)
