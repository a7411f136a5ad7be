-- What the heights file shows of the points.
use Rattle.std.proofs.Common.{◌≡◌, ℕ, ℤ, All, List, [], ◌∷◌, map, take, refl, ap, ◌∙◌, arith}
use Rattle.std.specs.List.{AllByRecursion}
use Rattle.std.proofs.lemmas.List.Elements.{All-from_recursion}
use Rattle.th_csv.specs.Records.{Fields, records_of}
use Rattle.th_csv.specs.Texts.{HasField, IsUnmarked, csv_text}
use Rattle.th_csv.proofs.RoundTripLemmas.{unmarked_text}
use Rattle.th_network.specs.Networks.{Survey, points_of}
use Rattle.th_report.specs.Heights.{height_record, heights_header, heights_text, printed_height, printed_heights}

have_fields : (low high : List ℕ → ℤ) (names : List (List ℕ)) → AllByRecursion HasField (map (height_record low high) names)
have_fields low high [] = tt
have_fields low high (name ∷ names) = (omega arith, have_fields low high names)

first_three : (low high : List ℕ → ℤ) (names : List (List ℕ)) → map (take 3) (map (height_record low high) names) ≡ map (printed_height low) names
first_three low high [] = refl
first_three low high (name ∷ names) = ap (λ later. printed_height low name ∷ later) (first_three low high names)

pub shown_heights : ((rows : List Fields) → All HasField rows → IsUnmarked (csv_text rows) → records_of (csv_text rows) ≡ rows)
    → (survey : Survey) (low high : List ℕ → ℤ) → printed_heights (heights_text survey low high) ≡ take 3 heights_header ∷ map (printed_height low) (points_of survey)
shown_heights read survey low high =
    let rows = heights_header ∷ map (height_record low high) (points_of survey) in
    let fields : AllByRecursion HasField rows = (omega arith, have_fields low high (points_of survey)) in
    ap (map (take 3)) (read rows (All-from_recursion HasField rows fields) (unmarked_text 112 _ refl))
    ∙ ap (λ later. take 3 heights_header ∷ later) (first_three low high (points_of survey))
