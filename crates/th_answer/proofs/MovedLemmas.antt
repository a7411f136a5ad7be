-- The span of heights, one more at a time, and the heights that are drawn.
use Rattle.std.proofs.Common.{◌≡◌, ◌∙◌, ◌==◌, ◌||◌, ◌<◌, ℕ, suc, ℤ, pos, Bool, false, List, [], ◌∷◌, ◌++◌, Option, Some, None, ap, bytes_eq, get_or, if◌then◌else◌, length, map, refl, sym, arith}
use Rattle.std.specs.List.{AllZip, IsDistinct, list_any}
use Rattle.th_blunders.proofs.HeightLemmas.{heights_at-listed}
use Rattle.th_network.specs.Networks.{Survey, at_points_of, points_of}
use Rattle.th_answer.specs.Answers.{those_corrected}
use Rattle.th_answer.specs.Corrected.{Corrected}
use Rattle.th_answer.specs.Inside.Moving.{drawn_heights, heights_in, is_moved_in, moved_in}
use Rattle.th_answer.specs.Inside.Readjusted.{IsListed}
use Rattle.th_answer.specs.Moved.{drawn_by, heights_then, is_moved, moved_among, moved_of, span_of}
use Rattle.th_answer.specs.declared.correcting.Readjusted.{Readjusted}
use Rattle.th_answer.proofs.PlaceLemmas.{heights_there}

-- where there are more rows, the lowest best heights are drawn
several : (low : List ℤ) (n : ℕ) (listed : List Readjusted) → drawn_heights low (suc (suc n)) listed ≡ low
several low n [] = refl
several low n (own ∷ []) =
    let not_one : (suc (suc n) == 1) ≡ false = grind arith in
    ap (λ (one : Bool). if one then own.heights.items else low) not_one
several low n (own ∷ other ∷ listed) = refl

-- a test of the heights at a place is a test of the lists
tests_in : (limit from : ℤ) (k : ℕ) (listed : List Readjusted) → list_any (is_moved_in limit from k) listed ≡ list_any (is_moved limit from) (heights_in listed k)
tests_in limit from k [] = refl
tests_in limit from k (own ∷ listed) = ap (λ (rest : Bool). is_moved_in limit from k own || rest) (tests_in limit from k listed)

-- the heights that are drawn, in a list
module _ (survey : Survey) (limit : ℤ) where
  pub drawn_listed : (heights : List ℕ → ℤ) (low : List ℤ) → low ≡ map heights (points_of survey) → (corrected : List (Option Corrected)) (listed : List Readjusted) → AllZip (IsListed survey limit) (those_corrected corrected) listed
      → drawn_heights low (length corrected) listed ≡ map (drawn_by heights corrected) (points_of survey)
  drawn_listed heights low same [] [] are = same
  drawn_listed heights low same [] (own ∷ listed) are = absurd are
  drawn_listed heights low same (None ∷ []) [] are = same
  drawn_listed heights low same (None ∷ []) (own ∷ listed) are = absurd are
  drawn_listed heights low same (Some one ∷ []) [] are = absurd are
  drawn_listed heights low same (Some one ∷ []) (own ∷ []) are = are.0.heights
  drawn_listed heights low same (Some one ∷ []) (own ∷ other ∷ listed) are = absurd are.1
  drawn_listed heights low same (None ∷ next ∷ corrected) listed are = several low (length corrected) listed ∙ same
  drawn_listed heights low same (Some one ∷ next ∷ corrected) listed are = several low (length corrected) listed ∙ same

  -- the heights at a place move as those of the point there
  pub moved_there : (low : List ℤ) (after : List Corrected) (listed : List Readjusted) (k : ℕ) (name : List ℕ) → AllZip (IsListed survey limit) after listed → IsDistinct bytes_eq (points_of survey) → k < length (points_of survey) → name ≡ get_or (points_of survey) k name
      → moved_in limit (get_or low k (pos 0)) k listed ≡ moved_of limit (at_points_of survey low) after name
  moved_there low after listed k name are distinct within here =
      ap (λ (moves : Bool). if moves then span_of (heights_in listed k) else None) (tests_in limit (get_or low k (pos 0)) k listed)
      ∙ ap (λ (heights : List ℤ). moved_among limit (get_or low k (pos 0)) heights) (heights_there survey limit after listed k name are within here)
      ∙ ap (λ (height : ℤ). moved_among limit height (heights_then after name)) (sym (heights_at-listed (points_of survey) low k name distinct within here))
