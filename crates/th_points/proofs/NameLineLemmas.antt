-- The lines of names, one row of the benchmarks after another.
use Rattle.std.proofs.Common.{◌≡◌, ◌+◌, ℕ, ℤ, Some, List, [], ◌∷◌, ◌++◌, flat_map, map, slice_get, take, sym, ap, ◌∙◌, append_assoc}
use Rattle.std.proofs.lemmas.Grind.{flat_map-append}
use Rattle.std.proofs.lemmas.List.{append-nil, map-append, take_more}
use Rattle.std.proofs.lemmas.Option.{get_or_from_slice_get, slice_get_within}
use Rattle.th_tables.specs.Rows.{BenchmarkRows}
use Rattle.th_points.specs.Inside.NameLines.{name_line}

-- the lines with those of the first rows of the benchmarks, and of one more
pub row_lines_more : (names : List (List ℕ)) (benchmarks : BenchmarkRows) (k : ℕ) (row : List ℕ × ℤ) (content : List ℕ) → Some row ≡ slice_get benchmarks k → content ≡ flat_map name_line (names ++ map (λ row. row.0) (take k benchmarks)) → content ++ name_line row.0 ≡ flat_map name_line (names ++ map (λ row. row.0) (take (k + 1) benchmarks))
row_lines_more names benchmarks k row content here lines =
    let name : List ℕ × ℤ → List ℕ = λ row. row.0 in
    let before = map name (take k benchmarks) in
    let within = slice_get_within benchmarks k row (sym here) in
    let taken : take (k + 1) benchmarks ≡ take k benchmarks ++ row ∷ [] = take_more benchmarks k row within ∙ ap (λ x. take k benchmarks ++ x ∷ []) (get_or_from_slice_get benchmarks k row row (sym here)) in
    ap (λ lines. lines ++ name_line row.0) lines
    ∙ ap (λ last. flat_map name_line (names ++ before) ++ last) (sym (append-nil (name_line row.0)))
    ∙ sym (flat_map-append name_line (names ++ before) (row.0 ∷ []))
    ∙ ap (flat_map name_line) (append_assoc names before (row.0 ∷ []) ∙ ap (λ rows. names ++ rows) (sym (map-append name (take k benchmarks) (row ∷ []))) ∙ ap (λ rows. names ++ map name rows) (sym taken))
