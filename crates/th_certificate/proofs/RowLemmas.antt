-- Rows, one more at the end, and what they say.
use Rattle.std.proofs.Common.{◌≡◌, ◌+◌, ◌++◌, ℕ, ℤ, false, cond, List, [], ◌∷◌, length, Some, None, is_some, bytes_eq, refl, sym, ap, subst, ◌∙◌, arith}
use Rattle.std.specs.List.{AllByRecursion, AllZip, IsDistinct, enumerate_from, list_any}
use Rattle.std.specs.Map.{keys_of, lookup}
use Rattle.std.specs.Cmp.Lexicographic.{nat_list_eq_equiv}
use Rattle.std.proofs.lemmas.List.{append-nil, map-append}
use Rattle.std.proofs.lemmas.Map.Keys.{IsDistinct-from_apart, IsDistinct-head, IsDistinct-push, IsDistinct-tail}
use Rattle.std.proofs.lemmas.Map.Made.{is_some-lookup}
use Rattle.th_csv.specs.Records.{Fields}
use Rattle.th_certificate.specs.Certified.{HeightRows}
use Rattle.th_certificate.specs.Rows.{IsFlowRow, IsHeightRow, SayFlows, SayHeights}
use Rattle.th_certificate.proofs.PointLemmas.{bytes_eq_flip}

-- one pair more
AllZip-more : {A B : Type 0} (R : A → B → Type 0) (xs : List A) (ys : List B) (x : A) (y : B) → AllZip R xs ys → R x y → AllZip R (xs ++ x ∷ []) (ys ++ y ∷ [])
AllZip-more R [] [] x y each last = (last, tt)
AllZip-more R [] (y' ∷ ys) x y each last = absurd each
AllZip-more R (x' ∷ xs) [] x y each last = absurd each
AllZip-more R (x' ∷ xs) (y' ∷ ys) x y each last = (each.0, AllZip-more R xs ys x y each.1 last)

-- nothing is said by no row alone
pub AllZip-none : {A B : Type 0} (R : A → B → Type 0) (xs : List A) (ys : List B) → AllZip R xs ys → ys ≡ [] → xs ≡ []
AllZip-none R [] ys each e = refl
AllZip-none R (x ∷ xs) [] each e = absurd each
AllZip-none R (x ∷ xs) (y ∷ ys) each e = cc e

-- one number more
enumerate_from-more : (n : ℕ) (xs : List ℤ) (x : ℤ) → enumerate_from n (xs ++ x ∷ []) ≡ enumerate_from n xs ++ (length xs + n, x) ∷ []
enumerate_from-more n [] x =
    let here : n ≡ 0 + n = omega arith in
    ap (λ k. (k, x) ∷ []) here
enumerate_from-more n (first ∷ xs) x =
    let further : length xs + (n + 1) ≡ length (first ∷ xs) + n = omega arith in
    ap (λ rest. (n, first) ∷ rest) (enumerate_from-more (n + 1) xs x ∙ ap (λ k. enumerate_from (n + 1) xs ++ (k, x) ∷ []) further)

-- one flow more
pub SayFlows-more : (rows : List Fields) (flows : List ℤ) (row : Fields) (flow : ℤ) → SayFlows rows flows → IsFlowRow row (length flows + 1, flow) → SayFlows (rows ++ row ∷ []) (flows ++ flow ∷ [])
SayFlows-more rows flows row flow said this =
    subst (AllZip IsFlowRow (rows ++ row ∷ [])) (sym (enumerate_from-more 1 flows flow)) (AllZip-more IsFlowRow rows (enumerate_from 1 flows) row (length flows + 1, flow) said this)

-- no names
pub distinct-none : IsDistinct bytes_eq []
distinct-none = IsDistinct-from_apart bytes_eq [] (λ i j d a b. absurd (omega arith))

-- a new name more
distinct-more : (rows : HeightRows) (row : List ℕ × ℤ) → IsDistinct bytes_eq (keys_of rows) → lookup (bytes_eq row.0) rows ≡ None → IsDistinct bytes_eq (keys_of (rows ++ row ∷ []))
distinct-more rows row distinct new =
    let absent : list_any (bytes_eq row.0) (keys_of rows) ≡ false = sym (is_some-lookup (bytes_eq row.0) rows) ∙ ap is_some new in
    subst (IsDistinct bytes_eq) (sym (map-append (λ (row : List ℕ × ℤ). row.0) rows (row ∷ []))) (IsDistinct-push nat_list_eq_equiv (keys_of rows) row.0 distinct absent)

-- one height more, of a new name
pub SayHeights-more : (letter : List ℕ) (rows : List Fields) (heights : HeightRows) (row : Fields) (said : List ℕ × ℤ) → SayHeights letter rows heights → IsHeightRow letter row said → lookup (bytes_eq said.0) heights ≡ None
    → SayHeights letter (rows ++ row ∷ []) (heights ++ said ∷ [])
SayHeights-more letter rows heights row said say this new =
    record { each = AllZip-more (IsHeightRow letter) rows heights row said say.each this; distinct = distinct-more heights said say.distinct new }

-- one of some names that all differ from another
apart-at : (name : List ℕ) (done : HeightRows) (row : List ℕ × ℤ) (todo : HeightRows) → AllByRecursion (λ other. bytes_eq name other ≡ false) (keys_of (done ++ row ∷ todo)) → bytes_eq name row.0 ≡ false
apart-at name [] row todo each = each.0
apart-at name (first ∷ done) row todo each = apart-at name done row todo each.1

-- no earlier row has the name of a later one
pub lookup-earlier : (done : HeightRows) (row : List ℕ × ℤ) (todo : HeightRows) → IsDistinct bytes_eq (keys_of (done ++ row ∷ todo)) → lookup (bytes_eq row.0) done ≡ None
lookup-earlier [] row todo distinct = refl
lookup-earlier (first ∷ done) row todo distinct =
    ap (λ same. cond same (Some first.1) (lookup (bytes_eq row.0) done)) (bytes_eq_flip row.0 first.0 ∙ apart-at first.0 done row todo (IsDistinct-head bytes_eq first.0 (keys_of (done ++ row ∷ todo)) distinct))
    ∙ lookup-earlier done row todo (IsDistinct-tail bytes_eq first.0 (keys_of (done ++ row ∷ todo)) distinct)

-- a row more, where no row stands after its kind
pub more_before_none : (rows rest : List Fields) (row : Fields) → rest ≡ [] → (rows ++ rest) ++ row ∷ [] ≡ (rows ++ row ∷ []) ++ rest
more_before_none rows [] row none = ap (λ rows. rows ++ row ∷ []) (append-nil rows) ∙ sym (append-nil (rows ++ row ∷ []))
more_before_none rows (first ∷ rest) row none = cc none

-- no rows and no rows
pub none_and_none : (rows rest : List Fields) → rows ≡ [] → rest ≡ [] → rows ++ rest ≡ []
none_and_none rows rest none nor = ap (λ rows. rows ++ rest) none ∙ nor
