-- Heights that are listed in the order of some names, and the rows of these names.
use Rattle.std.proofs.Common.{◌≡◌, ◌<◌, ◌≤◌, ◌+◌, ◌++◌, ℕ, ℤ, pos, Bool, true, false, ◌||◌, if◌then◌else◌, List, All, [], ◌∷◌, length, get_or, drop, map, take, Some, None, bytes_eq, unsigned_abs, unwrap_or, of_z, to_z, w64, suc, zero, refl, sym, ap, subst, ◌∙◌, append_assoc, arith}
use Rattle.std.specs.Cmp.Lexicographic.{nat_list_eq_equiv}
use Rattle.std.specs.List.{IsDistinct, list_any}
use Rattle.std.specs.Map.{lookup}
use Rattle.std.proofs.lemmas.Int.{fits_signed_from_abs, to_z-of_z}
use Rattle.std.proofs.lemmas.List.{append-nil, drop_all, drop_more, take_all, take_more}
use Rattle.std.proofs.lemmas.List.Concat.{flat_map-append}
use Rattle.std.proofs.lemmas.List.Elements.{All-push}
use Rattle.std.proofs.lemmas.Option.{slice_get-get_or}
use Rattle.std.proofs.lemmas.Map.Keys.{IsDistinct-tail, apart_from_distinct}
use Rattle.std.proofs.lemmas.Slice.Eq.{bytes_eq-Decides}
use Rattle.gsi_word.specs.Names.{name_of}
use Rattle.th_csv.specs.Texts.{csv_text, row_text}
use Rattle.th_network.specs.Heights.{heights_at}
use Rattle.th_network.specs.Limits.{height_limit}
use Rattle.th_points.specs.Places.{place_of}
use Rattle.th_points.proofs.PlaceLemmas.{place_of_at}
use Rattle.th_certificate.specs.Certified.{rows_at, stated_height}
use Rattle.th_certificate.specs.Texts.{height_row}

-- names are compared either way round
pub bytes_eq_flip : (a b : List ℕ) → bytes_eq a b ≡ bytes_eq b a
bytes_eq_flip a b = nat_list_eq_equiv.symm a b

-- the place of a name in a list that has each name once
pub place_of-get_or : (names : List (List ℕ)) (k : ℕ) (d : List ℕ) → IsDistinct bytes_eq names → k < length names → place_of names (get_or names k d) ≡ k
place_of-get_or names k d distinct within =
    place_of_at names k (get_or names k d) distinct (slice_get-get_or names k d within)

-- the names before a place have no row of the name at the place
pub lookup-rows_before : (names : List (List ℕ)) (k : ℕ) (heights : List ℕ → ℤ) (d : List ℕ) → IsDistinct bytes_eq names → k < length names
    → lookup (bytes_eq (get_or names k d)) (rows_at (take k names) heights) ≡ None
lookup-rows_before [] k heights d distinct within = absurd (omega arith)
lookup-rows_before (first ∷ names) zero heights d distinct within = refl
lookup-rows_before (first ∷ names) (suc k) heights d distinct within =
    let inner : k < length names = omega arith in
    let other : bytes_eq (get_or names k d) first ≡ false = bytes_eq_flip (get_or names k d) first ∙ apart_from_distinct bytes_eq (first ∷ names) 0 (suc k) d distinct (omega arith) within in
    ap (λ same. if same then Some (heights first) else lookup (bytes_eq (get_or names k d)) (rows_at (take k names) heights)) other
    ∙ lookup-rows_before names k heights d (IsDistinct-tail bytes_eq first names distinct) inner

-- the height at the place of a name
pub heights_at-get_or : (names : List (List ℕ)) (heights : List ℤ) (k : ℕ) (name : List ℕ) → IsDistinct bytes_eq names → k < length names → name ≡ get_or names k name → heights_at names heights name ≡ get_or heights k (pos 0)
heights_at-get_or names heights k name distinct within is =
    let place : place_of names name ≡ k = ap (place_of names) is ∙ place_of-get_or names k name distinct within in
    ap (λ k. get_or heights k (pos 0)) place

-- a name that is among some has a row, and its height is stated
pub stated_height-rows_at : (names : List (List ℕ)) (heights : List ℕ → ℤ) (name : List ℕ) → list_any (bytes_eq name) names ≡ true → stated_height (rows_at names heights) name ≡ heights name
stated_height-rows_at [] heights name among = cc among
stated_height-rows_at (first ∷ names) heights name among = by (bytes_eq name first) (bytes_eq-Decides name first).0 (stated_height-rows_at names heights name) among
  where
    by : (same : Bool) → (same ≡ true → name ≡ first) → (list_any (bytes_eq name) names ≡ true → stated_height (rows_at names heights) name ≡ heights name) → (same || list_any (bytes_eq name) names) ≡ true
        → unwrap_or (if same then Some (heights first) else lookup (bytes_eq name) (rows_at names heights)) (pos 0) ≡ heights name
    by true equal more among = ap heights (sym (equal refl))
    by false equal more among = more among

-- the height that is looked up at the place of a name
pub height_there : (names : List (List ℕ)) (heights : List ℤ) (k : ℕ) (name : List ℕ) → IsDistinct bytes_eq names → All (λ height. unsigned_abs height < height_limit) heights → length heights ≡ length names → k < length names → name ≡ get_or names k name
    → to_z w64 (of_z w64 (get_or heights k (pos 0))) ≡ heights_at names heights name
height_there names heights k name distinct in_range each within is =
    let small : unsigned_abs (get_or heights k (pos 0)) < height_limit = in_range k (pos 0) (omega arith) in
    to_z-of_z w64 (get_or heights k (pos 0)) (fits_signed_from_abs w64 (get_or heights k (pos 0)) (omega arith)) ∙ sym (heights_at-get_or names heights k name distinct within is)

module _ (letter : List ℕ) (names : List (List ℕ)) (heights : List ℕ → ℤ) where
  -- the text of the rows of names
  rows_text : List (List ℕ) → List ℕ
  rows_text names = csv_text (map (height_row letter) (rows_at names heights))

  -- one row more
  pub rows_more : (k : ℕ) (name : List ℕ) (text text' all : List ℕ) → k < length names → name ≡ get_or names k name → text' ≡ text ++ csv_text (height_row letter (name, heights name) ∷ [])
      → text ++ csv_text (map (height_row letter) (rows_at (drop k names) heights)) ≡ all → text' ++ csv_text (map (height_row letter) (rows_at (drop (k + 1) names) heights)) ≡ all
  unfolding rows_text
  rows_more k name text text' all within is written so_far =
      let left : drop k names ≡ name ∷ drop (k + 1) names = drop_more names k name within ∙ ap (λ first. first ∷ drop (k + 1) names) (sym is) in
      ap (λ front. front ++ rows_text (drop (k + 1) names)) written
      ∙ append_assoc text (csv_text (height_row letter (name, heights name) ∷ [])) (rows_text (drop (k + 1) names))
      ∙ ap (λ rest. text ++ rest) (sym (flat_map-append row_text (height_row letter (name, heights name) ∷ []) (map (height_row letter) (rows_at (drop (k + 1) names) heights))))
      ∙ ap (λ left. text ++ rows_text left) (sym left)
      ∙ so_far

  -- no row is left
  pub rows_all : (k : ℕ) (text all : List ℕ) → length names ≤ k → text ++ csv_text (map (height_row letter) (rows_at (drop k names) heights)) ≡ all → text ≡ all
  unfolding rows_text
  rows_all k text all past so_far = sym (append-nil text) ∙ ap (λ left. text ++ rows_text left) (sym (drop_all k names past)) ∙ so_far

-- one name more in reduced form
pub names_more : (names : List (List ℕ)) (k : ℕ) (name : List ℕ) → k < length names → name ≡ get_or names k name → name_of name ≡ Some name
    → All (λ name. name_of name ≡ Some name) (take k names) → All (λ name. name_of name ≡ Some name) (take (k + 1) names)
names_more names k name within is this before =
    subst (All (λ name. name_of name ≡ Some name)) (sym (take_more names k name within))
    (All-push (λ name. name_of name ≡ Some name) (take k names) (get_or names k name) before (subst (λ name. name_of name ≡ Some name) is this))

-- so all of them are
pub names_all : (names : List (List ℕ)) (k : ℕ) → length names ≤ k → All (λ name. name_of name ≡ Some name) (take k names) → All (λ name. name_of name ≡ Some name) names
names_all names k past before = subst (All (λ name. name_of name ≡ Some name)) (take_all k names past) before
