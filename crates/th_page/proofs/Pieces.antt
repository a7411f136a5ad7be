-- A page is made of pieces.
use Rattle.std.proofs.Common.{◌≡◌, ◌+◌, ◌-◌, ℕ, ℤ, Bool, true, false, List, [], ◌∷◌, ◌++◌, Option, Some, None, codes, decimal, length, map, refl, ap, ap₂, ◌∙◌}
use Rattle.std.specs.Prelude.{◌==◌, if◌then◌else◌, option_map, take, filter, nat_le, nat_lt, is_some, unsigned_abs}
use Rattle.std.specs.List.{enumerate_from, flat_map}
use Rattle.std.proofs.lemmas.List.{length-map, take-map}
use Rattle.th_answer.specs.declared.answers.Group.{Group}
use Rattle.th_answer.specs.declared.answers.Moved.{Moved}
use Rattle.th_answer.specs.declared.answers.Others.{Others}
use Rattle.th_html.specs.Benchmarks.{is_off, others_head, others_row, others_rows, others_table, says_cells}
use Rattle.th_html.specs.Cells.{height_cell, name_cell, number_cell, optional_height_cell, place_cell, words_cell}
use Rattle.th_html.specs.Heights.{above, break_at, height_tables, heights_open, mended_cell, moved_row, numbered_height, row_of, staying_row, stays_cell, strength_cell, struck_cells, tables_of}
use Rattle.th_html.specs.Lengths.{size_text, sized_text}
use Rattle.th_html.specs.Shown.{is_moved, moved_count, shown_benchmark, shown_point}
use Rattle.th_html.specs.Tables.{benchmark_head, benchmark_row, benchmark_table, benchmark_words, ends_found, entry_cells, entry_head, entry_row, entry_table, explanation_head, explanation_row, explanation_table, found_cells, left_out, most_rows, number_cells, place_found, row_open, sight_cells, sight_head, sight_row, sight_table, table_close, table_open, value_cells}
use Rattle.th_html.specs.Words.{entry_words, number_words}
use Rattle.th_review_rows.specs.Words.{mistake_word, shared_mistake_word}
use Rattle.th_html.specs.declared.shown.ShownBenchmark.{ShownBenchmark}
use Rattle.th_html.specs.declared.shown.ShownPoint.{ShownPoint}
use Rattle.th_explain_texts.specs.declared.rows.Row.{Row}
use Rattle.th_inputs.specs.Inputs.{NamedInput, input_text}
use Rattle.th_picture.specs.Drawn.{drawn_point, drawn_sight}
use Rattle.th_picture.specs.Groups.{undrawn_count}
use Rattle.th_picture.specs.Strips.{largest_of}
use Rattle.th_picture.specs.declared.drawn.DrawnPoint.{DrawnPoint}
use Rattle.th_picture.specs.declared.drawn.DrawnSight.{DrawnSight}
use Rattle.th_review_rows.specs.Weak.{is_weak_benchmark, is_weak_entry, is_weak_observation}
use Rattle.th_review_rows.specs.declared.rows.BenchmarkRow.{BenchmarkRow}
use Rattle.th_review_rows.specs.declared.rows.EntryRow.{EntryRow}
use Rattle.th_review_rows.specs.declared.rows.ObservationRow.{ObservationRow}
use Rattle.th_review_rows.specs.declared.rows.PointRow.{PointRow}
use Rattle.th_page.specs.Asks.{ask_section, input_item, sum_text}
use Rattle.th_page.specs.Contents.{JoinedRows, ShownRows, joined_of}
use Rattle.th_page.specs.Counts.{counts_of, explains_all, is_first, is_fixed, is_marked, is_unchecked_entry, is_unchecked_sight, tone_of, verdict_of}
use Rattle.th_page.specs.Facts.{fact_item, facts_text}
use Rattle.th_page.specs.Figures.{figure_text, undrawn_text}
use Rattle.th_page.specs.Fixed.{ask_end, ask_middle, ask_start, benchmark_start, body_text, caption_text, details_end, explanation_start, head_text, height_note, height_start, hiding_start, note_start, picture_start, residual_start, section_end, style_text, title_end, weak_benchmarks_start, weak_entries_start, weak_sights_start}
use Rattle.th_page.specs.Heads.{head_part, name_text, names_text, next_name, source_text, title_part}
use Rattle.th_page.specs.Hiding.{hiding_section, weak_benchmarks, weak_counts, weak_entries, weak_sights}
use Rattle.th_page.specs.Laws.{Given, PagesAreOfPieces, benchmark_named, entry_named, explanation_named, input_named, point_named, shown_named, sight_named}
use Rattle.th_page.specs.Pages.{back_part, front_part, height_part, page_text, page_with}
use Rattle.th_page.specs.Residuals.{all_listed, first_told, group_words, is_told, listed_sights, most_listed, residual_head, residual_row, residual_section, residual_table}
use Rattle.th_page.specs.Sections.{benchmark_section, explanation_section, height_section, note_item, note_section, struck_words}
use Rattle.th_page.specs.Verdicts.{depend_words, found_part, lone_paragraph, many_words, marks_paragraph, meaning_part, moved_words, moves_note, moves_words, one_words, point_heights, point_name, point_words, said_paragraph, still_words, unchecked_paragraph, unlike_paragraph, verdict_start, verdict_text, words_of_point}
use Rattle.th_page.specs.declared.counts.Counts.{Counts}
use Rattle.th_page.proofs.Fillings.{IsFilled, ◌⊕◌, changed, chosen, counted, name, passing, placed, same, still}
use Rattle.th_page.proofs.PicturePieces.{as_many_undrawn, dot_named, drawn_named, largest_named, legend_is, pictured, strip_is}

-- ---- rows of what the answer says of them, with what is given
abbrev told_named : Given → ShownPoint → ShownPoint
told_named given point = record point { row = point_named given point.row }

abbrev known_named : Given → ShownBenchmark → ShownBenchmark
known_named given benchmark = record benchmark { row = benchmark_named given benchmark.row }

abbrev joined_named : Given → JoinedRows → JoinedRows
joined_named given joined = record {
  points = map (told_named given) joined.points;
  benchmarks = map (known_named given) joined.benchmarks;
  dots = map (dot_named given) joined.dots;
  sights = map (drawn_named given) joined.sights;
}

told : (given : Given) (moved : List (Option Moved)) (n : ℕ) (rows : List PointRow) → map (shown_point moved) (enumerate_from n (map (point_named given) rows)) ≡ map (told_named given) (map (shown_point moved) (enumerate_from n rows))
told given moved n [] = refl
told given moved n (row ∷ rows) = ap (λ rest. told_named given (shown_point moved (n, row)) ∷ rest) (told given moved (n + 1) rows)

known : (given : Given) (others : List Others) (n : ℕ) (rows : List BenchmarkRow) → map (shown_benchmark others) (enumerate_from n (map (benchmark_named given) rows)) ≡ map (known_named given) (map (shown_benchmark others) (enumerate_from n rows))
known given others n [] = refl
known given others n (row ∷ rows) = ap (λ rest. known_named given (shown_benchmark others (n, row)) ∷ rest) (known given others (n + 1) rows)

dotted : (given : Given) (heights : List ℤ) (n : ℕ) (rows : List PointRow) → map (drawn_point heights) (enumerate_from n (map (point_named given) rows)) ≡ map (dot_named given) (map (drawn_point heights) (enumerate_from n rows))
dotted given heights n [] = refl
dotted given heights n (row ∷ rows) = ap (λ rest. dot_named given (drawn_point heights (n, row)) ∷ rest) (dotted given heights (n + 1) rows)

sighted : (given : Given) (groups : List Group) (heights : List ℤ) (n : ℕ) (rows : List ObservationRow)
    → map (drawn_sight groups heights) (enumerate_from n (map (sight_named given) rows)) ≡ map (drawn_named given) (map (drawn_sight groups heights) (enumerate_from n rows))
sighted given groups heights n [] = refl
sighted given groups heights n (row ∷ rows) = ap (λ rest. drawn_named given (drawn_sight groups heights (n, row)) ∷ rest) (sighted given groups heights (n + 1) rows)

joined_same : (given : Given) (shown : ShownRows) → joined_of (shown_named given shown) ≡ joined_named given (joined_of shown)
joined_same given shown = λ i. record {
  points = told given shown.answer.moved 0 shown.points i;
  benchmarks = known given shown.answer.others 0 shown.benchmarks i;
  dots = dotted given shown.answer.drawn 0 shown.points i;
  sights = sighted given shown.answer.groups shown.answer.drawn 0 shown.sights i;
}

-- ---- the counts are those without the names
counts_same : (given : Given) (shown : ShownRows) (joined : JoinedRows) → counts_of (shown_named given shown) (joined_named given joined) ≡ counts_of shown joined
counts_same given shown joined = λ i. record {
  sights = length-map shown.sights (sight_named given) i;
  marked = counted (is_marked shown.limit) (drawn_named given) joined.sights i;
  benchmarks = counted is_fixed (point_named given) shown.points i;
  free = length-map shown.points (point_named given) i - counted is_fixed (point_named given) shown.points i;
  loops = length-map shown.sights (sight_named given) i - (length-map shown.points (point_named given) i - counted is_fixed (point_named given) shown.points i);
  rows = length-map shown.explanations (explanation_named given) i;
  firsts = counted is_first (explanation_named given) shown.explanations i;
  explaining = counted explains_all (explanation_named given) shown.explanations i;
  moved = counted is_moved (told_named given) joined.points i;
  unchecked_sights = counted is_unchecked_sight (sight_named given) shown.sights i;
  unchecked_entries = counted is_unchecked_entry (entry_named given) shown.entries i;
  has_outlier = is_some shown.answer.outlier;
}

-- ---- rows of tables
in_cell : (text : List ℕ) → IsFilled (λ given. name_cell (given.text text))
in_cell text = still (codes "<th>") ⊕ name text

place_and_ends : (row : ObservationRow) → IsFilled (λ given. sight_cells (sight_named given row))
unfolding sight_cells
place_and_ends row = still (place_cell row.observation.book row.observation.line) ⊕ in_cell row.observation.station ⊕ in_cell row.observation.target

found_still : (row : ObservationRow) → IsFilled (λ given. found_cells (sight_named given row))
unfolding found_cells
found_still row = still (found_cells row)

of_sight : (row : ObservationRow) → IsFilled (λ given. sight_row (sight_named given row))
unfolding sight_row
of_sight row = still (codes "<tr>") ⊕ place_and_ends row ⊕ found_still row ⊕ still (words_cell (mistake_word row.mistake)) ⊕ still (codes "\n")

of_residual : (sight : DrawnSight) → IsFilled (λ given. residual_row (drawn_named given sight))
unfolding residual_row
of_residual sight =
    still (codes "<tr>") ⊕ place_and_ends sight.row ⊕ found_still sight.row ⊕ still (codes "<th class=\"t\">") ⊕ still (group_words sight.group) ⊕ still (codes "\n")

of_entry : (row : EntryRow) → IsFilled (λ given. entry_row (entry_named given row))
unfolding entry_row entry_cells
of_entry row =
    still (codes "<tr>") ⊕ (still (place_cell row.entry.book row.entry.line ++ words_cell (entry_words row.entry.kind)) ⊕ in_cell row.entry.station) ⊕ still (height_cell row.entry.length)
    ⊕ still (number_cell row.entry.sights) ⊕ still (number_cell row.weight) ⊕ still (words_cell (shared_mistake_word row.mistake)) ⊕ still (codes "\n")

of_benchmark : (row : BenchmarkRow) → IsFilled (λ given. benchmark_row (benchmark_named given row))
unfolding benchmark_row
of_benchmark row =
    still (codes "<tr>") ⊕ in_cell row.name ⊕ still (height_cell row.height) ⊕ still (number_cell row.sights) ⊕ still (number_cell row.weight)
    ⊕ still (words_cell (benchmark_words row.mistake)) ⊕ still (codes "\n")

says_still : (is_only : Bool) (benchmark : ShownBenchmark) → IsFilled (λ given. says_cells is_only (known_named given benchmark))
unfolding says_cells
says_still is_only benchmark = still (says_cells is_only benchmark)

of_known : (limit : ℤ) (is_only : Bool) (benchmark : ShownBenchmark) → IsFilled (λ given. others_row limit is_only (known_named given benchmark))
unfolding others_row
of_known limit is_only benchmark =
    still (row_open (is_off limit benchmark)) ⊕ in_cell benchmark.row.name ⊕ still (height_cell benchmark.row.height) ⊕ still (number_cell benchmark.row.sights)
    ⊕ says_still is_only benchmark ⊕ still (codes "\n")

of_staying : (are_moved : Bool) (row : PointRow) → IsFilled (λ given. staying_row are_moved (point_named given row))
unfolding staying_row
of_staying are_moved row =
    still (row_open false) ⊕ in_cell row.name ⊕ still (height_cell row.low) ⊕ still (optional_height_cell (above row)) ⊕ still (strength_cell row.strength)
    ⊕ still (stays_cell are_moved) ⊕ still (codes "\n")

of_moved : (row : PointRow) (moved : Moved) → IsFilled (λ given. moved_row (point_named given row) moved)
unfolding moved_row
of_moved row moved =
    still (row_open true) ⊕ in_cell row.name ⊕ still (struck_cells row.low) ⊕ still (strength_cell row.strength) ⊕ still (mended_cell moved) ⊕ still (codes "\n")

of_row : (are_moved : Bool) (row : PointRow) (moved : Option Moved) → IsFilled (λ given. row_of are_moved (point_named given row) moved)
of_row are_moved row None = of_staying are_moved row
of_row are_moved row (Some moved) = of_moved row moved

of_point : (are_moved : Bool) (k : ℕ) (point : ShownPoint) → IsFilled (λ given. numbered_height are_moved (k, told_named given point))
unfolding numbered_height
of_point are_moved k point = still (break_at are_moved k) ⊕ of_row are_moved point.row point.moved

ends_of : (from to : Option (List ℕ)) → IsFilled (λ given. ends_found (option_map given.text from) (option_map given.text to))
ends_of None to = still []
ends_of (Some station) None = name station
ends_of (Some station) (Some target) = name station ⊕ still (codes " to ") ⊕ name target

of_explanation : (row : Row) → IsFilled (λ given. explanation_row (explanation_named given row))
unfolding explanation_row number_cells value_cells
of_explanation row =
    still (row_open (row.number == 1))
    ⊕ (still (number_cell row.number ++ codes "<td>" ++ place_found row.book row.line ++ words_cell (number_words row.kind) ++ codes "<th>") ⊕ ends_of row.from row.to)
    ⊕ still (value_cells row) ⊕ still (codes "\n")

-- ---- tables
first_rows : {X : Type 0} (one : X → List ℕ) (change : Given → X → X) (rows : List X) → ((row : X) → IsFilled (λ given. one (change given row))) → IsFilled (λ given. flat_map one (take most_rows (map (change given) rows)))
first_rows one change rows all =
    same (λ given. flat_map one (map (change given) (take most_rows rows))) (λ given. flat_map one (take most_rows (map (change given) rows)))
    (λ given keeps. ap (flat_map one) (take-map (change given) most_rows rows)) (changed one change (take most_rows rows) all)

left : {X : Type 0} (change : Given → X → X) (rows : List X) → IsFilled (λ given. left_out (length (map (change given) rows)))
left change rows = same (λ given. left_out (length rows)) (λ given. left_out (length (map (change given) rows))) (λ given keeps. ap left_out (length-map rows (change given))) (still (left_out (length rows)))

sights_are : (rows : List ObservationRow) → IsFilled (λ given. sight_table (map (sight_named given) rows))
unfolding sight_table
sights_are rows = still (table_open sight_head) ⊕ first_rows sight_row sight_named rows of_sight ⊕ still table_close ⊕ left sight_named rows

entries_are : (rows : List EntryRow) → IsFilled (λ given. entry_table (map (entry_named given) rows))
unfolding entry_table
entries_are rows = still (table_open entry_head) ⊕ first_rows entry_row entry_named rows of_entry ⊕ still table_close ⊕ left entry_named rows

benchmarks_are : (rows : List BenchmarkRow) → IsFilled (λ given. benchmark_table (map (benchmark_named given) rows))
unfolding benchmark_table
benchmarks_are rows = still (table_open benchmark_head) ⊕ first_rows benchmark_row benchmark_named rows of_benchmark ⊕ still table_close ⊕ left benchmark_named rows

explanations_are : (rows : List Row) → IsFilled (λ given. explanation_table (map (explanation_named given) rows))
unfolding explanation_table
explanations_are rows = still (table_open explanation_head) ⊕ first_rows explanation_row explanation_named rows of_explanation ⊕ still table_close ⊕ left explanation_named rows

points_are : (are_moved : Bool) (points : List ShownPoint) → IsFilled (λ given. tables_of are_moved (map (told_named given) points))
unfolding tables_of
points_are are_moved points = still (heights_open are_moved) ⊕ placed (numbered_height are_moved) told_named points (of_point are_moved) ⊕ still table_close

heights_are : (points : List ShownPoint) → IsFilled (λ given. height_tables (map (told_named given) points))
heights_are points =
    same (λ given. tables_of (nat_lt 0 (moved_count points)) (map (told_named given) points)) (λ given. height_tables (map (told_named given) points))
    (λ given keeps. ap (λ n. tables_of (nat_lt 0 n) (map (told_named given) points)) (counted is_moved (told_named given) points)) (points_are (nat_lt 0 (moved_count points)) points)

known_rows : (limit : ℤ) (is_only : Bool) (rows : List ShownBenchmark) → IsFilled (λ given. others_rows limit is_only (map (known_named given) rows))
unfolding others_rows
known_rows limit is_only rows = still (table_open others_head) ⊕ changed (others_row limit is_only) known_named rows (of_known limit is_only) ⊕ still table_close

known_are : (limit : ℤ) (rows : List ShownBenchmark) → IsFilled (λ given. others_table limit (map (known_named given) rows))
known_are limit rows =
    same (λ given. others_rows limit (length rows == 1) (map (known_named given) (take most_rows rows))) (λ given. others_rows limit (length (map (known_named given) rows) == 1) (take most_rows (map (known_named given) rows)))
    (λ given keeps. ap₂ (λ (n : ℕ) (first : List ShownBenchmark). others_rows limit (n == 1) first) (length-map rows (known_named given)) (take-map (known_named given) most_rows rows))
    (known_rows limit (length rows == 1) (take most_rows rows))
    ⊕ left known_named rows

residuals_are : (sights : List DrawnSight) → IsFilled (λ given. residual_table (map (drawn_named given) sights))
unfolding residual_table
residuals_are sights = still (table_open residual_head) ⊕ changed residual_row drawn_named sights of_residual ⊕ still table_close

-- ---- sections
in_explanations : (rows : List Row) → IsFilled (λ given. explanation_section (map (explanation_named given) rows))
unfolding explanation_section
in_explanations [] = still []
in_explanations (row ∷ rows) = still explanation_start ⊕ explanations_are (row ∷ rows) ⊕ still section_end

in_heights : (points : List ShownPoint) → IsFilled (λ given. height_section (map (told_named given) points))
unfolding height_section
in_heights points =
    still height_start
    ⊕ same (λ given. struck_words (moved_count points)) (λ given. struck_words (moved_count (map (told_named given) points)))
    (λ given keeps. ap struck_words (counted is_moved (told_named given) points)) (still (struck_words (moved_count points)))
    ⊕ still height_note ⊕ heights_are points ⊕ still section_end

in_benchmarks : (rows : List ShownBenchmark) (limit : ℤ) → IsFilled (λ given. benchmark_section (map (known_named given) rows) limit)
unfolding benchmark_section
in_benchmarks [] limit = still []
in_benchmarks (row ∷ rows) limit = still benchmark_start ⊕ known_are limit (row ∷ rows) ⊕ still section_end

of_told : (sights : List DrawnSight) → IsFilled (λ given. first_told (map (drawn_named given) sights))
unfolding first_told
of_told [] = still []
of_told (sight ∷ sights) =
    same (λ given. residual_table (map (drawn_named given) (take most_rows (sight ∷ sights)))) (λ given. residual_table (take most_rows (map (drawn_named given) (sight ∷ sights))))
    (λ given keeps. ap residual_table (take-map (drawn_named given) most_rows (sight ∷ sights))) (residuals_are (take most_rows (sight ∷ sights)))
    ⊕ left drawn_named (sight ∷ sights)

of_all : (sights : List DrawnSight) → IsFilled (λ given. all_listed (map (drawn_named given) sights))
unfolding all_listed
of_all sights =
    same (λ given. codes "<details>\n<summary>All " ++ decimal (length sights) ++ codes " sights</summary>\n") (λ given. codes "<details>\n<summary>All " ++ decimal (length (map (drawn_named given) sights)) ++ codes " sights</summary>\n")
    (λ given keeps. ap (λ n. codes "<details>\n<summary>All " ++ decimal n ++ codes " sights</summary>\n") (length-map sights (drawn_named given)))
    (still (codes "<details>\n<summary>All " ++ decimal (length sights) ++ codes " sights</summary>\n"))
    ⊕ residuals_are sights ⊕ still details_end

of_listed : (sights : List DrawnSight) → IsFilled (λ given. listed_sights (map (drawn_named given) sights))
of_listed sights =
    same (λ given. if nat_le (length sights) most_listed then all_listed (map (drawn_named given) sights) else []) (λ given. listed_sights (map (drawn_named given) sights))
    (λ given keeps. ap (λ n. if nat_le n most_listed then all_listed (map (drawn_named given) sights) else []) (length-map sights (drawn_named given)))
    (chosen (nat_le (length sights) most_listed) (of_all sights) (still []))

in_residuals : (sights : List DrawnSight) (limit : ℤ) → IsFilled (λ given. residual_section (map (drawn_named given) sights) limit)
unfolding residual_section
in_residuals [] limit = still []
in_residuals (sight ∷ sights) limit =
    still residual_start ⊕ strip_is (sight ∷ sights) limit ⊕ still (codes "</div>\n")
    ⊕ same (λ given. first_told (map (drawn_named given) (filter is_told (sight ∷ sights)))) (λ given. first_told (filter is_told (map (drawn_named given) (sight ∷ sights))))
    (λ given keeps. ap first_told (passing is_told (drawn_named given) (sight ∷ sights))) (of_told (filter is_told (sight ∷ sights)))
    ⊕ of_listed (sight ∷ sights) ⊕ still section_end

in_weak_sights : (rows : List ObservationRow) → IsFilled (λ given. weak_sights (map (sight_named given) rows))
unfolding weak_sights
in_weak_sights [] = still []
in_weak_sights (row ∷ rows) = still weak_sights_start ⊕ sights_are (row ∷ rows) ⊕ still details_end

in_weak_benchmarks : (rows : List BenchmarkRow) → IsFilled (λ given. weak_benchmarks (map (benchmark_named given) rows))
unfolding weak_benchmarks
in_weak_benchmarks [] = still []
in_weak_benchmarks (row ∷ rows) = still weak_benchmarks_start ⊕ benchmarks_are (row ∷ rows) ⊕ still details_end

in_weak_entries : (rows : List EntryRow) → IsFilled (λ given. weak_entries (map (entry_named given) rows))
unfolding weak_entries
in_weak_entries [] = still []
in_weak_entries (row ∷ rows) = still weak_entries_start ⊕ entries_are (row ∷ rows) ⊕ still details_end

of_weak : (sights : List ObservationRow) (benchmarks : List BenchmarkRow) (entries : List EntryRow)
    → IsFilled (λ given. weak_counts (map (sight_named given) sights) (map (benchmark_named given) benchmarks) (map (entry_named given) entries))
unfolding weak_counts
of_weak sights benchmarks entries =
    same (λ given. weak_counts sights benchmarks entries) (λ given. weak_counts (map (sight_named given) sights) (map (benchmark_named given) benchmarks) (map (entry_named given) entries))
    (λ given keeps.
    let first = ap (λ n. codes "<ul class=\"facts\">\n" ++ fact_item n (codes "weak sights")) (counted is_weak_observation (sight_named given) sights) in
    let second = ap (λ n. fact_item n (codes "weak benchmarks")) (counted is_weak_benchmark (benchmark_named given) benchmarks) in
    let third = ap (λ n. fact_item n (codes "weak keyed-in heights")) (counted is_weak_entry (entry_named given) entries) in
    ap (λ a. a ++ codes "</ul>\n") (ap₂ (λ a b. a ++ b) (ap₂ (λ a b. a ++ b) first second) third))
    (still (weak_counts sights benchmarks entries))

in_hiding : (sights : List ObservationRow) (benchmarks : List BenchmarkRow) (entries : List EntryRow)
    → IsFilled (λ given. hiding_section (map (sight_named given) sights) (map (benchmark_named given) benchmarks) (map (entry_named given) entries))
unfolding hiding_section
in_hiding sights benchmarks entries =
    still hiding_start ⊕ of_weak sights benchmarks entries
    ⊕ same (λ given. weak_sights (map (sight_named given) (filter is_weak_observation sights))) (λ given. weak_sights (filter is_weak_observation (map (sight_named given) sights)))
    (λ given keeps. ap weak_sights (passing is_weak_observation (sight_named given) sights)) (in_weak_sights (filter is_weak_observation sights))
    ⊕ same (λ given. weak_benchmarks (map (benchmark_named given) (filter is_weak_benchmark benchmarks))) (λ given. weak_benchmarks (filter is_weak_benchmark (map (benchmark_named given) benchmarks)))
    (λ given keeps. ap weak_benchmarks (passing is_weak_benchmark (benchmark_named given) benchmarks)) (in_weak_benchmarks (filter is_weak_benchmark benchmarks))
    ⊕ same (λ given. weak_entries (map (entry_named given) (filter is_weak_entry entries))) (λ given. weak_entries (filter is_weak_entry (map (entry_named given) entries)))
    (λ given keeps. ap weak_entries (passing is_weak_entry (entry_named given) entries)) (in_weak_entries (filter is_weak_entry entries))
    ⊕ still section_end

of_note : (note : List ℕ) → IsFilled (λ given. note_item (given.text note))
unfolding note_item
of_note note = still (codes "<li>") ⊕ name note ⊕ still (codes "\n")

in_notes : (notes : List (List ℕ)) → IsFilled (λ given. note_section (map given.text notes))
unfolding note_section
in_notes [] = still []
in_notes (note ∷ notes) = still note_start ⊕ changed note_item (λ given. given.text) (note ∷ notes) of_note ⊕ still (codes "</ul>\n") ⊕ still section_end

of_input : (input : NamedInput) → IsFilled (λ given. input_item (input_named given input))
unfolding input_item
of_input (own, sum) = still (codes "<li>") ⊕ still (input_text sum.which) ⊕ still (codes ": <bdi>") ⊕ name own ⊕ still (codes "</bdi> ") ⊕ still (sum_text sum)

asked : (cost : ℕ) (inputs : List NamedInput) → IsFilled (λ given. ask_section cost (map (input_named given) inputs))
unfolding ask_section
asked cost inputs = still ask_start ⊕ still (sized_text false cost) ⊕ still ask_middle ⊕ changed input_item input_named inputs of_input ⊕ still ask_end

-- ---- the head
titled : (title : List ℕ) → IsFilled (λ given. title_part (given.text title))
unfolding title_part
titled title = still head_text ⊕ name title ⊕ still title_end ⊕ still style_text ⊕ still body_text ⊕ name title ⊕ still (codes "</h1>\n")

of_input_name : (own : List ℕ) → IsFilled (λ given. name_text (given.text own))
unfolding name_text
of_input_name own = still (codes "<bdi>") ⊕ name own ⊕ still (codes "</bdi>")

of_next_name : (input : NamedInput) → IsFilled (λ given. next_name (input_named given input))
unfolding next_name
of_next_name (own, sum) = still (codes ", ") ⊕ of_input_name own

of_names : (inputs : List NamedInput) → IsFilled (λ given. names_text (map (input_named given) inputs))
of_names [] = still []
of_names ((own, sum) ∷ inputs) = of_input_name own ⊕ changed next_name input_named inputs of_next_name

sourced : (inputs : List NamedInput) (limit : ℤ) → IsFilled (λ given. source_text (map (input_named given) inputs) limit)
unfolding source_text
sourced inputs limit = still (codes "<p class=\"of\">Heights from ") ⊕ of_names inputs ⊕ still (codes " &middot; limit ") ⊕ still (size_text (unsigned_abs limit)) ⊕ still (codes "</p>\n")

headed : (title : List ℕ) (inputs : List NamedInput) (limit : ℤ) → IsFilled (λ given. head_part (given.text title) (map (input_named given) inputs) limit)
unfolding head_part
headed title inputs limit = titled title ⊕ sourced inputs limit

-- ---- the front, with its counts
said : (sentence : List ℕ) → IsFilled (λ given. said_paragraph (given.text sentence))
unfolding said_paragraph
said sentence = still (codes "<p>") ⊕ name sentence ⊕ still (codes "</p>\n")

found : (counts : Counts) (says : List (List ℕ)) → IsFilled (λ given. found_part counts (map given.text says))
unfolding found_part
found counts says = still (verdict_start (tone_of counts) (verdict_of counts)) ⊕ still (marks_paragraph counts) ⊕ changed said_paragraph (λ given. given.text) says said

of_words : (row : PointRow) (moved : Option Moved) → IsFilled (λ given. moved_words (point_named given row) moved)
unfolding point_words point_name
of_words row None = still []
of_words row (Some moved) = (still (codes "Then the height of <b>") ⊕ name row.name ⊕ still (codes "</b> is <b>")) ⊕ still (point_heights moved.low row.low)

one : (count limit : ℕ) (points : List ShownPoint) → IsFilled (λ given. one_words count limit (map (told_named given) points))
one count limit points = chosen (count == 1) (changed words_of_point told_named points (λ point. of_words point.row point.moved)) (still (many_words count limit))

moving : (counts : Counts) (limit : ℕ) (points : List ShownPoint) → IsFilled (λ given. moves_words counts limit (map (told_named given) points))
moving counts limit points =
    chosen (counts.moved == 0) (still (still_words limit)) (chosen (counts.firsts == 1) (one counts.moved limit points) (still (depend_words counts.moved limit)))

moves_are : (counts : Counts) (limit : ℕ) (points : List ShownPoint) → IsFilled (λ given. moves_note counts limit (map (told_named given) points))
unfolding moves_note
moves_are counts limit points = still (codes "<p>") ⊕ moving counts limit points ⊕ still (codes "</p>\n")

meant : (counts : Counts) (shown : ShownRows) (joined : JoinedRows) → IsFilled (λ given. meaning_part counts (shown_named given shown) (joined_named given joined))
unfolding meaning_part
meant counts shown joined =
    chosen (counts.firsts == 0) (still []) (moves_are counts (unsigned_abs shown.limit) joined.points)
    ⊕ still (unlike_paragraph (verdict_of counts) shown.answer.outlier) ⊕ still (unchecked_paragraph counts) ⊕ still (lone_paragraph counts.benchmarks)

verdict : (counts : Counts) (shown : ShownRows) (joined : JoinedRows) → IsFilled (λ given. verdict_text counts (shown_named given shown) (joined_named given joined))
unfolding verdict_text
verdict counts shown joined = found counts shown.says ⊕ meant counts shown joined ⊕ still (codes "</div>\n")

figure_is : (points : List DrawnPoint) (sights : List DrawnSight) (firsts : ℕ) → IsFilled (λ given. figure_text (map (dot_named given) points) (map (drawn_named given) sights) firsts)
unfolding figure_text
figure_is points sights firsts =
    still picture_start ⊕ pictured points sights ⊕ still (codes "</div>\n") ⊕ legend_is sights firsts
    ⊕ same (λ given. undrawn_text (undrawn_count sights)) (λ given. undrawn_text (undrawn_count (map (drawn_named given) sights)))
    (λ given keeps. ap undrawn_text (as_many_undrawn given sights)) (still (undrawn_text (undrawn_count sights)))
    ⊕ still caption_text

facts : (counts : Counts) (limit : ℤ) (sights : List DrawnSight) → IsFilled (λ given. facts_text counts (largest_of limit (map (drawn_named given) sights)))
facts counts limit sights =
    same (λ given. facts_text counts (largest_of limit sights)) (λ given. facts_text counts (largest_of limit (map (drawn_named given) sights)))
    (λ given keeps. ap (facts_text counts) (largest_named limit given sights)) (still (facts_text counts (largest_of limit sights)))

-- ---- the page
fronted : (counts : Counts) (shown : ShownRows) (joined : JoinedRows) → IsFilled (λ given. front_part counts (shown_named given shown) (joined_named given joined))
unfolding front_part
fronted counts shown joined = verdict counts shown joined ⊕ figure_is joined.dots joined.sights counts.firsts ⊕ facts counts shown.limit joined.sights

measured : (shown : ShownRows) (joined : JoinedRows) → IsFilled (λ given. height_part (shown_named given shown) (joined_named given joined))
unfolding height_part
measured shown joined = in_heights joined.points ⊕ in_benchmarks joined.benchmarks shown.limit ⊕ in_residuals joined.sights shown.limit

backed : (shown : ShownRows) → IsFilled (λ given. back_part (shown_named given shown))
unfolding back_part
backed shown = in_explanations shown.explanations ⊕ in_hiding shown.sights shown.benchmarks shown.entries ⊕ in_notes shown.notes ⊕ asked shown.cost shown.inputs

with_counts : (counts : Counts) (shown : ShownRows) (joined : JoinedRows) → IsFilled (λ given. page_with counts (shown_named given shown) (joined_named given joined))
unfolding page_with
with_counts counts shown joined =
    headed shown.title shown.inputs shown.limit ⊕ fronted counts shown joined ⊕ measured shown joined ⊕ backed shown ⊕ still (codes "</body>\n</html>\n")

whole : (shown : ShownRows) → IsFilled (λ given. page_text (shown_named given shown))
whole shown =
    same (λ given. page_with (counts_of shown (joined_of shown)) (shown_named given shown) (joined_named given (joined_of shown))) (λ given. page_text (shown_named given shown))
    (λ given keeps.
    ap (λ joined. page_with (counts_of (shown_named given shown) joined) (shown_named given shown) joined) (joined_same given shown)
    ∙ ap (λ counts. page_with counts (shown_named given shown) (joined_named given (joined_of shown))) (counts_same given shown (joined_of shown)))
    (with_counts (counts_of shown (joined_of shown)) shown (joined_of shown))

pub pieces : PagesAreOfPieces
pieces shown = let filling = whole shown in (filling.pieces, filling.is)
