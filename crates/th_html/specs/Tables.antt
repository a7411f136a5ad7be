-- The tables of a page: their heads and their rows.
use Rattle.std.specs.Prelude.{ℕ, ℤ, ◌-◌, ◌==◌, Bool, false, List, [], Option, None, Some, ◌++◌, codes, decimal, if◌then◌else◌, int_lt, length, nat_lt, option_map, take}
use Rattle.std.specs.List.{flat_map}
use Rattle.th_explain_texts.specs.declared.rows.Row.{Row}
use Rattle.th_explain_texts.specs.declared.rows.Values.{Values}
use Rattle.th_reliability.specs.declared.mistakes.SharedMistake.{SharedMistake}
use Rattle.th_review_rows.specs.declared.rows.BenchmarkRow.{BenchmarkRow}
use Rattle.th_review_rows.specs.declared.rows.EntryRow.{EntryRow}
use Rattle.th_review_rows.specs.declared.rows.ObservationRow.{ObservationRow}
use Rattle.th_answer.specs.Limits.{most_benchmarks}
use Rattle.th_html.specs.Cells.{height_cell, name_cell, number_cell, optional_cell, optional_height_cell, place_cell, signed_cell, words_cell}
use Rattle.th_html.specs.Lengths.{sized_text}
use Rattle.th_html.specs.Places.{place_text}
use Rattle.th_html.specs.Texts.{escaped}
use Rattle.th_html.specs.Words.{entry_words, number_words}
use Rattle.th_review_rows.specs.Words.{mistake_word, shared_mistake_word}

-- the most rows of a table: as many as benchmarks are compared with the others
abbrev pub most_rows : ℕ
most_rows = most_benchmarks

-- the beginning of a table, with its head
unfoldable pub table_start : List ℕ
table_start = codes "<div class=\"w\"><table>\n<thead><tr>"

unfoldable pub head_end : List ℕ
head_end = codes "</thead>\n<tbody>\n"

unfoldable pub table_open : List ℕ → List ℕ
table_open head = table_start ++ head ++ head_end

-- its end
unfoldable pub table_close : List ℕ
table_close = codes "</tbody></table></div>\n"

-- how many rows were left out
abbrev pub more_words : ℕ → List ℕ
more_words count =
    if count == 1 then codes " more row is in the tables of height_office review.</p>\n"
    else codes " more rows are in the tables of height_office review.</p>\n"

unfoldable pub more_text : ℕ → List ℕ
more_text count = codes "<p>" ++ decimal count ++ more_words count

abbrev pub left_out : ℕ → List ℕ
left_out count = if nat_lt most_rows count then more_text (count - most_rows) else []

-- sights
unfoldable pub sight_head : List ℕ
sight_head = codes "<td>Place<th>From<th>To<td>Observed<td>Residual<td>Weight<td>Control<th>A mistake"

unfoldable pub sight_cells : ObservationRow → List ℕ
sight_cells row =
    place_cell row.observation.book row.observation.line ++ name_cell row.observation.station ++ name_cell row.observation.target

unfoldable pub found_cells : ObservationRow → List ℕ
found_cells row = height_cell row.observation.difference ++ signed_cell row.residual ++ number_cell row.weight ++ optional_cell row.control

unfoldable pub sight_row : ObservationRow → List ℕ
sight_row row = codes "<tr>" ++ sight_cells row ++ found_cells row ++ words_cell (mistake_word row.mistake) ++ codes "\n"

unfoldable pub sight_table : List ObservationRow → List ℕ
sight_table rows = table_open sight_head ++ flat_map sight_row (take most_rows rows) ++ table_close ++ left_out (length rows)

-- entries
unfoldable pub entry_head : List ℕ
entry_head = codes "<td>Place<th>Height of<th>At<td>Given<td>Sights<td>Weight<th>A mistake"

unfoldable pub entry_cells : EntryRow → List ℕ
entry_cells row = place_cell row.entry.book row.entry.line ++ words_cell (entry_words row.entry.kind) ++ name_cell row.entry.station

unfoldable pub entry_row : EntryRow → List ℕ
entry_row row =
    codes "<tr>" ++ entry_cells row ++ height_cell row.entry.length ++ number_cell row.entry.sights ++ number_cell row.weight
    ++ words_cell (shared_mistake_word row.mistake) ++ codes "\n"

unfoldable pub entry_table : List EntryRow → List ℕ
entry_table rows = table_open entry_head ++ flat_map entry_row (take most_rows rows) ++ table_close ++ left_out (length rows)

-- benchmarks; one that was never observed has no mistake
unfoldable pub benchmark_head : List ℕ
benchmark_head = codes "<th>Benchmark<td>Height<td>Sights<td>Weight<th>A mistake"

abbrev pub benchmark_words : Option SharedMistake → List ℕ
benchmark_words None = []
benchmark_words (Some mistake) = shared_mistake_word mistake

unfoldable pub benchmark_row : BenchmarkRow → List ℕ
benchmark_row row =
    codes "<tr>" ++ name_cell row.name ++ height_cell row.height ++ number_cell row.sights ++ number_cell row.weight
    ++ words_cell (benchmark_words row.mistake) ++ codes "\n"

unfoldable pub benchmark_table : List BenchmarkRow → List ℕ
benchmark_table rows = table_open benchmark_head ++ flat_map benchmark_row (take most_rows rows) ++ table_close ++ left_out (length rows)

-- the beginning of a row, which is marked or not
abbrev pub row_open : Bool → List ℕ
row_open is_marked = if is_marked then codes "<tr class=\"x\">" else codes "<tr>"

-- explanations; those with number 1 are marked
unfoldable pub explanation_head : List ℕ
explanation_head = codes "<td>No<td>Place<th>What<th>At<td>Given<td>Proposed<td>up to<td>Cost left<td>Marks left"

-- where a number is: the line and its book, a book, or in no book
abbrev pub place_found : Option ℕ → Option ℕ → List ℕ
place_found None line = codes "-"
place_found (Some book) None = decimal book
place_found (Some book) (Some line) = place_text book line

-- the ends that a number has
abbrev pub ends_found : Option (List ℕ) → Option (List ℕ) → List ℕ
ends_found None target = []
ends_found (Some station) None = escaped station
ends_found (Some station) (Some target) = escaped station ++ codes " to " ++ escaped target

abbrev pub given_of : Row → Option ℤ
given_of row = option_map (λ values. values.given) row.values

abbrev pub low_of : Row → Option ℤ
low_of row = option_map (λ values. values.low) row.values

-- the highest proposed value, if it is above the lowest
abbrev pub above_low : Values → Option ℤ
above_low values = if int_lt values.low values.high then Some values.high else None

abbrev pub high_of : Option Values → Option ℤ
high_of None = None
high_of (Some values) = above_low values

unfoldable pub number_cells : Row → List ℕ
number_cells row =
    number_cell row.number ++ codes "<td>" ++ place_found row.book row.line ++ words_cell (number_words row.kind) ++ codes "<th>" ++ ends_found row.from row.to

unfoldable pub value_cells : Row → List ℕ
value_cells row =
    optional_height_cell (given_of row) ++ optional_height_cell (low_of row) ++ optional_height_cell (high_of row.values)
    ++ codes "<td>" ++ sized_text false row.left ++ number_cell row.blunders

unfoldable pub explanation_row : Row → List ℕ
explanation_row row = row_open (row.number == 1) ++ number_cells row ++ value_cells row ++ codes "\n"

unfoldable pub explanation_table : List Row → List ℕ
explanation_table rows = table_open explanation_head ++ flat_map explanation_row (take most_rows rows) ++ table_close ++ left_out (length rows)
