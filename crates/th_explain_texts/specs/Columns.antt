-- The head and the columns of the text for people.
use Rattle.std.specs.Prelude.{ℕ, ℤ, List, [], ◌++◌, Option, codes, decimal, if◌then◌else◌, int_lt, length, option_map}
use Rattle.std.specs.List.{flat_map}
use Rattle.th_columns.specs.Columns.{gap, left_in, line_end, right_in}
use Rattle.th_columns.specs.Labels.{label_line, limit_line}
use Rattle.th_explain_texts.specs.Costs.{cost_metres}
use Rattle.th_explain_texts.specs.Tables.{length_field, name_field, number_field}
use Rattle.th_explain_texts.specs.Words.{since_mark, word_index}
use Rattle.th_explain_texts.specs.declared.rows.Row.{Row}
use Rattle.th_explain_texts.specs.declared.rows.Summary.{Summary}
use Rattle.th_explain_texts.specs.declared.rows.Values.{Values}

-- the cost
unfoldable pub cost_line : ℕ → List ℕ
cost_line cost = label_line (codes "cost") (cost_metres cost)

-- the cost, the limit of blunders, and how many are marked
unfoldable pub cost_lines : Summary → List ℕ
cost_lines summary =
    cost_line summary.cost
    ++ limit_line summary.limit
    ++ label_line (codes "marked") (decimal summary.marked)

-- how many numbers there are of each kind
unfoldable pub count_lines : Summary → List ℕ
count_lines summary =
    label_line (codes "sights") (decimal summary.sights)
    ++ label_line (codes "entries") (decimal summary.entries)
    ++ label_line (codes "changes") (decimal summary.changes)
    ++ label_line (codes "benchmarks") (decimal summary.benchmarks)
    ++ label_line (codes "books") (decimal summary.books)

-- the proposed value that is nearest to the given one
abbrev pub mildest_value : Values → ℤ
mildest_value values = if int_lt values.given values.low then values.low else (if int_lt values.high values.given then values.high else values.given)

abbrev pub mildest_of : Row → Option ℤ
mildest_of row = option_map mildest_value row.values

-- the columns that say which number it is: the row's number, book, line, and word
unfoldable pub place_columns : List ℕ → List ℕ → List ℕ → List ℕ → List ℕ
place_columns number book line word = right_in 4 number ++ gap ++ right_in 2 book ++ gap ++ right_in 6 line ++ gap ++ right_in 4 word ++ gap

-- the columns of its ends
unfoldable pub end_columns : List ℕ → List ℕ → List ℕ
end_columns from to = left_in 16 from ++ gap ++ left_in 16 to ++ gap

-- the other columns: the mildest proposed value, what is left, the blunders, and a mark
unfoldable pub value_columns : List ℕ → List ℕ → List ℕ → List ℕ → List ℕ
value_columns proposed left blunders mark = right_in 13 proposed ++ gap ++ right_in 12 left ++ right_in 9 blunders ++ mark ++ line_end

-- the names of the columns
unfoldable pub header_line : List ℕ
header_line =
    place_columns (codes "NO") (codes "BK") (codes "LINE") (codes "WORD")
    ++ end_columns (codes "FROM") (codes "TO")
    ++ value_columns (codes "PROPOSED") (codes "COST LEFT") (codes "BLUNDERS") []

-- the line of a row
unfoldable pub row_line : Row → List ℕ
row_line row =
    place_columns (decimal row.number) (number_field row.book) (number_field row.line) (word_index row.kind)
    ++ end_columns (name_field row.from) (name_field row.to)
    ++ value_columns (length_field (mildest_of row)) (cost_metres row.left) (decimal row.blunders) (since_mark row.kind)

-- the label lines, and the table of the rows
unfoldable pub row_lines : List Row → List ℕ
row_lines rows = label_line (codes "explanations") (decimal (length rows)) ++ header_line ++ flat_map row_line rows
