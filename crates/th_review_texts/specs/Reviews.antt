-- The tables of a review for people.
use Rattle.std.specs.Prelude.{ℕ, ℤ, pos, ◌-◌, ◌/◌, not, List, [], ◌++◌, codes, decimal, fold, length, max, option_map}
use Rattle.std.specs.List.{enumerate_from, flat_map}
use Rattle.std.specs.Ordering.{int_eq}
use Rattle.th_units.specs.Metres.{metres}
use Rattle.th_network.specs.Networks.{Survey, weights_of}
use Rattle.th_blunders.specs.Blunders.{is_blunder}
use Rattle.th_columns.specs.Columns.{gap, left_in, line_end, right_in}
use Rattle.th_report.specs.Reports.{blunder_mark, end_columns, ends_of, place_columns, place_of}
use Rattle.th_columns.specs.Labels.{label_line, limit_line}
use Rattle.th_inputs.specs.Inputs.{NamedInput, input_lines}
use Rattle.th_review_texts.specs.Heads.{head_lines}
use Rattle.th_review_texts.specs.Largest.{largest}
use Rattle.th_notes.specs.Books.{counts_of_books}
use Rattle.th_notes.specs.Notes.{note_lines}
use Rattle.th_review_rows.specs.Found.{FoundRows}
use Rattle.th_review_rows.specs.Words.{benchmark_mark, blames_of, kind_word, mistake_mark, moves_of, number_or_dash, point_mark, shared_mistake_mark}
use Rattle.th_entries.specs.declared.counts.BookCount.{BookCount}
use Rattle.th_review_rows.specs.declared.rows.PointRow.{PointRow}
use Rattle.th_review_rows.specs.declared.rows.ObservationRow.{ObservationRow}
use Rattle.th_review_rows.specs.declared.rows.EntryRow.{EntryRow}
use Rattle.th_review_rows.specs.declared.rows.BenchmarkRow.{BenchmarkRow}

-- the columns of books: a number, and counts of lines, blocks, setups and sights
unfoldable pub book_columns : List ℕ → List ℕ → List ℕ → List ℕ → List ℕ → List ℕ
book_columns number lines blocks setups sights =
    right_in 2 number ++ gap ++ right_in 8 lines ++ gap ++ right_in 8 blocks ++ gap ++ right_in 8 setups ++ gap ++ right_in 8 sights ++ line_end

-- the line of a numbered book
unfoldable pub book_line : ℕ × BookCount → List ℕ
book_line (number, count) = book_columns (decimal number) (decimal count.lines) (decimal count.blocks) (decimal count.setups) (decimal count.sights)

-- the table of books, numbered from 1
unfoldable pub book_lines : List BookCount → List ℕ
book_lines books =
    book_columns (codes "BK") (codes "LINES") (codes "BLOCKS") (codes "SETUPS") (codes "SIGHTS") ++ flat_map book_line (enumerate_from 1 books)

-- the columns of points: name, height, highest less lowest best height, strength, how many wrong sights it withstands, and mark
unfoldable pub point_columns : List ℕ → List ℕ → List ℕ → List ℕ → List ℕ → List ℕ → List ℕ
point_columns name height spread strength withstands mark =
    left_in 16 name ++ gap ++ right_in 20 height ++ gap ++ right_in 20 spread ++ gap ++ right_in 8 strength ++ gap ++ right_in 10 withstands ++ mark ++ line_end

-- the largest weight of the observations
abbrev pub largest_weight : Survey → ℕ
largest_weight survey = fold max 0 (weights_of survey)

-- how many wrong sights of the largest weight a point of this strength withstands: together they weigh less than half of the strength
abbrev pub withstood : ℕ → ℕ → ℕ
withstood largest strength = (strength - 1) / 2 / max largest 1

-- the line of a point
unfoldable pub point_line : ℕ → PointRow → List ℕ
point_line largest row =
    point_columns row.name (metres row.low) (metres row.spread) (number_or_dash row.strength) (number_or_dash (option_map (withstood largest) row.strength)) (point_mark row.alone (not (int_eq row.spread (pos 0))))

-- the table of points
unfoldable pub point_lines : ℕ → List PointRow → List ℕ
point_lines largest points =
    point_columns (codes "POINT") (codes "HEIGHT") (codes "HIGH-LOW") (codes "STRENGTH") (codes "WITHSTANDS") [] ++ flat_map (point_line largest) points

-- the columns of observations: a weight, a residual, and a control
unfoldable pub checked_columns : List ℕ → List ℕ → List ℕ → List ℕ
checked_columns weight residual control = right_in 4 weight ++ gap ++ right_in 20 residual ++ gap ++ right_in 8 control

-- the last columns: how many points would move, how many observations would be blamed, and a mark
unfoldable pub moved_columns : List ℕ → List ℕ → List ℕ → List ℕ
moved_columns moves blames mark = gap ++ right_in 6 moves ++ gap ++ right_in 6 blames ++ mark ++ line_end

-- the header of the tables of observations, as far as both have it
unfoldable pub checked_header : List ℕ
checked_header =
    place_columns (codes "NO") (codes "BK") (codes "LINE")
    ++ end_columns (codes "FROM") (codes "TO")
    ++ checked_columns (codes "WT") (codes "RESIDUAL") (codes "CONTROL")

-- the line of an observation, as far as both tables have it
unfoldable pub checked_line : ObservationRow → List ℕ
checked_line row =
    place_of row.number row.observation ++ ends_of row.observation
    ++ checked_columns (decimal row.weight) (metres row.residual) (number_or_dash row.control)

-- the line of one of the largest residuals, with the mark of a blunder
unfoldable pub largest_line : ℤ → ObservationRow → List ℕ
largest_line limit row = checked_line row ++ blunder_mark (is_blunder limit row.residual) ++ line_end

-- the table of the largest residuals, after their number and the limit of blunders
unfoldable pub largest_lines : ℤ → List ObservationRow → List ℕ
largest_lines limit observations =
    label_line (codes "largest") (decimal (length (largest observations)))
    ++ limit_line limit
    ++ checked_header ++ line_end ++ flat_map (largest_line limit) (largest observations)

-- the line of an observation, with the mark of what a mistake in it would do
unfoldable pub observation_line : ObservationRow → List ℕ
observation_line row =
    checked_line row ++ moved_columns (number_or_dash (moves_of row.blame)) (number_or_dash (blames_of row.blame)) (mistake_mark row.mistake)

-- the table of observations
unfoldable pub observation_lines : List ObservationRow → List ℕ
observation_lines observations = checked_header ++ moved_columns (codes "MOVES") (codes "BLAMES") [] ++ flat_map observation_line observations

-- the columns of entries that identify one: book, line, word index, and station
unfoldable pub entry_places : List ℕ → List ℕ → List ℕ → List ℕ → List ℕ
entry_places book line word station = right_in 2 book ++ gap ++ right_in 8 line ++ gap ++ right_in 4 word ++ gap ++ left_in 16 station ++ gap

-- further columns of entries: length, number of sights, and weight
unfoldable pub entry_values : List ℕ → List ℕ → List ℕ → List ℕ
entry_values length sights weight = right_in 20 length ++ gap ++ right_in 6 sights ++ gap ++ right_in 8 weight

-- the line of an entry
unfoldable pub entry_line : EntryRow → List ℕ
entry_line row =
    entry_places (decimal row.entry.book) (decimal row.entry.line) (kind_word row.entry.kind) row.entry.station
    ++ entry_values (metres row.entry.length) (decimal row.entry.sights) (decimal row.weight)
    ++ moved_columns (number_or_dash (moves_of row.blame)) (number_or_dash (blames_of row.blame)) (shared_mistake_mark row.mistake)

-- the table of entries
unfoldable pub entry_lines : List EntryRow → List ℕ
entry_lines entries =
    entry_places (codes "BK") (codes "LINE") (codes "WORD") (codes "STATION")
    ++ entry_values (codes "LENGTH") (codes "SIGHTS") (codes "WEIGHT")
    ++ moved_columns (codes "MOVES") (codes "BLAMES") []
    ++ flat_map entry_line entries

-- the columns of benchmarks: name, height, number of sights, weight, and strength
unfoldable pub benchmark_columns : List ℕ → List ℕ → List ℕ → List ℕ → List ℕ → List ℕ
benchmark_columns name height sights weight strength =
    left_in 16 name ++ gap ++ right_in 20 height ++ gap ++ right_in 6 sights ++ gap ++ right_in 8 weight ++ gap ++ right_in 8 strength

-- the line of a benchmark
unfoldable pub benchmark_line : BenchmarkRow → List ℕ
benchmark_line row =
    benchmark_columns row.name (metres row.height) (decimal row.sights) (decimal row.weight) (number_or_dash row.strength)
    ++ moved_columns (number_or_dash (moves_of row.blame)) (number_or_dash (blames_of row.blame)) (benchmark_mark row.mistake)

-- the table of benchmarks
unfoldable pub benchmark_lines : List BenchmarkRow → List ℕ
benchmark_lines benchmarks =
    benchmark_columns (codes "POINT") (codes "HEIGHT") (codes "SIGHTS") (codes "WEIGHT") (codes "STRENGTH")
    ++ moved_columns (codes "MOVES") (codes "BLAMES") []
    ++ flat_map benchmark_line benchmarks

-- the part before the table of points: the head, the books, the inputs and the largest residuals, with an empty line after each
unfoldable pub front_part : FoundRows → List NamedInput → ℤ → List ℕ
front_part found inputs limit =
    head_lines found ++ line_end
    ++ book_lines (counts_of_books found.books) ++ line_end
    ++ input_lines inputs ++ line_end
    ++ largest_lines limit found.observations ++ line_end

-- the tables of all points, observations, entries and benchmarks, with an empty line after each
unfoldable pub table_part : FoundRows → List ℕ
table_part found =
    point_lines (largest_weight found.survey) found.points ++ line_end
    ++ observation_lines found.observations ++ line_end
    ++ entry_lines found.entries ++ line_end
    ++ benchmark_lines found.benchmarks ++ line_end

-- the text of the review
unfoldable pub review_text : FoundRows → List NamedInput → ℤ → List ℕ
review_text found inputs limit = front_part found inputs limit ++ table_part found ++ note_lines found.notes
