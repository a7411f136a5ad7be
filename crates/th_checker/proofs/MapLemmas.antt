-- The rows of tables and of certificates by their places.
use Rattle.std.proofs.Common.{◌≡◌, ◌<◌, ◌≤◌, ◌+◌, ◌++◌, pos, map, take, unwrap_or, ◌∙◌, sym, ap, ◌||◌, ℕ, ℤ, Bool, true, false, if◌then◌else◌, List, [], ◌∷◌, length, get_or, slice_get, Some, None, bytes_eq, unsigned_abs, refl, subst}
use Rattle.std.specs.List.{list_any}
use Rattle.std.specs.Map.{keys_of, lookup}
use Rattle.std.proofs.lemmas.List.{map-append, take_more}
use Rattle.std.proofs.lemmas.List.Elements.{All-get_or}
use Rattle.std.proofs.lemmas.Option.{get_or_from_slice_get, slice_get_within}
use Rattle.th_tables.specs.Rows.{AreBenchmarks, BenchmarkRows}
use Rattle.th_certificate.specs.Certified.{AreHeightRows, HeightRows, stated_height}
use Rattle.th_network.specs.Limits.{height_limit}
use Rattle.th_units.specs.Limits.{max_len}

-- the height of a benchmark by its place
pub benchmark_small : (rows : BenchmarkRows) (k : ℕ) (row : List ℕ × ℤ) → AreBenchmarks rows → slice_get rows k ≡ Some row → unsigned_abs row.1 ≤ max_len
benchmark_small rows k row valid found =
    subst (λ (row : List ℕ × ℤ). unsigned_abs row.1 ≤ max_len) (get_or_from_slice_get rows k row row found)
    (All-get_or (λ row. unsigned_abs row.1 ≤ max_len) rows k row (slice_get_within rows k row found) valid.heights)

-- the height of a row by its place
pub row_small : (rows : HeightRows) (k : ℕ) (row : List ℕ × ℤ) → AreHeightRows rows → slice_get rows k ≡ Some row → unsigned_abs row.1 < height_limit
row_small rows k row valid found =
    subst (λ (row : List ℕ × ℤ). unsigned_abs row.1 < height_limit) (get_or_from_slice_get rows k row row found)
    (All-get_or (λ row. unsigned_abs row.1 < height_limit) rows k row (slice_get_within rows k row found) valid.in_range)

-- a name without a row is not among the names of rows, and one with a row is
pub no_row : (rows : HeightRows) (name : List ℕ) → lookup (bytes_eq name) rows ≡ None → list_any (bytes_eq name) (keys_of rows) ≡ false
no_row [] name none = refl
no_row (row ∷ rows) name none = by (bytes_eq name row.0) (no_row rows name) none
  where
    by : (same : Bool) → (lookup (bytes_eq name) rows ≡ None → list_any (bytes_eq name) (keys_of rows) ≡ false) → (if same then Some row.1 else lookup (bytes_eq name) rows) ≡ None → (same || list_any (bytes_eq name) (keys_of rows)) ≡ false
    by true more none = cc none
    by false more none = more none

pub a_row : (rows : HeightRows) (name : List ℕ) (height : ℤ) → lookup (bytes_eq name) rows ≡ Some height → list_any (bytes_eq name) (keys_of rows) ≡ true
a_row [] name height found = cc found
a_row (row ∷ rows) name height found = by (bytes_eq name row.0) (a_row rows name height) found
  where
    by : (same : Bool) → (lookup (bytes_eq name) rows ≡ Some height → list_any (bytes_eq name) (keys_of rows) ≡ true) → (if same then Some row.1 else lookup (bytes_eq name) rows) ≡ Some height → (same || list_any (bytes_eq name) (keys_of rows)) ≡ true
    by true more found = refl
    by false more found = more found

-- one height more
pub listed_more : (rows : HeightRows) (names : List (List ℕ)) (i : ℕ) (name : List ℕ) (height : ℤ) (heights : List ℤ) → i < length names → name ≡ get_or names i name → lookup (bytes_eq name) rows ≡ Some height
    → heights ≡ map (stated_height rows) (take i names) → heights ++ height ∷ [] ≡ map (stated_height rows) (take (i + 1) names)
listed_more rows names i name height heights within is found so_far =
    ap (λ front. front ++ height ∷ []) so_far
    ∙ ap (λ z. map (stated_height rows) (take i names) ++ z ∷ []) (sym (ap (λ o. unwrap_or o (pos 0)) found))
    ∙ sym (map-append (stated_height rows) (take i names) (name ∷ []))
    ∙ ap (λ last. map (stated_height rows) (take i names ++ last ∷ [])) is
    ∙ ap (map (stated_height rows)) (sym (take_more names i name within))
