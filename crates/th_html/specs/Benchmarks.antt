-- The table of benchmarks, and of what the others say of each.
use Rattle.std.specs.Prelude.{ℕ, ℤ, ◌-ℤ◌, ◌==◌, Bool, List, [], Option, None, Some, ◌++◌, codes, if◌then◌else◌, int_lt, length, nat_lt, take, unsigned_abs}
use Rattle.std.specs.List.{flat_map}
use Rattle.th_answer.specs.declared.answers.Others.{Others}
use Rattle.th_answer.specs.declared.answers.Others.TheVariants.{Nothing, Fits, Differ}
use Rattle.th_html.specs.Cells.{height_cell, name_cell, number_cell}
use Rattle.th_html.specs.Lengths.{size_text, span_text}
use Rattle.th_html.specs.Tables.{left_out, most_rows, row_open, table_close, table_open}
use Rattle.th_html.specs.declared.shown.ShownBenchmark.{ShownBenchmark}

unfoldable pub others_head : List ℕ
others_head = codes "<th>Benchmark<td>Given<td>Sights<td>The others say<td>Off by"

-- that the others say nothing of a benchmark; whether it is the only one
abbrev pub nothing_text : Bool → List ℕ
nothing_text is_only = if is_only then codes "nothing: it is the only one" else codes "nothing"

-- what the others say
abbrev pub says_text : Bool → Option Others → List ℕ
says_text is_only None = []
says_text is_only (Some Nothing) = nothing_text is_only
says_text is_only (Some Fits) = []
says_text is_only (Some (Differ low high)) = span_text low high

-- how far a height is outside of what the others say
abbrev pub outside : ℤ → ℤ → ℤ → ℕ
outside height low high =
    if int_lt height low then unsigned_abs (low -ℤ height) else (if int_lt high height then unsigned_abs (height -ℤ high) else 0)

abbrev pub off_by : ℤ → Option Others → ℕ
off_by height None = 0
off_by height (Some Nothing) = 0
off_by height (Some Fits) = 0
off_by height (Some (Differ low high)) = outside height low high

-- the same in words
abbrev pub size_off : ℕ → List ℕ
size_off size = if size == 0 then codes "fits" else size_text size

abbrev pub off_text : ℤ → Option Others → List ℕ
off_text height None = []
off_text height (Some Nothing) = []
off_text height (Some Fits) = codes "fits"
off_text height (Some (Differ low high)) = size_off (outside height low high)

unfoldable pub says_cells : Bool → ShownBenchmark → List ℕ
says_cells is_only benchmark =
    codes "<td>" ++ says_text is_only benchmark.others ++ codes "<td>" ++ off_text benchmark.row.height benchmark.others

-- a benchmark; it is marked if it is off by more than a limit
abbrev pub is_off : ℤ → ShownBenchmark → Bool
is_off limit benchmark = nat_lt (unsigned_abs limit) (off_by benchmark.row.height benchmark.others)

unfoldable pub others_row : ℤ → Bool → ShownBenchmark → List ℕ
others_row limit is_only benchmark =
    row_open (is_off limit benchmark) ++ name_cell benchmark.row.name ++ height_cell benchmark.row.height ++ number_cell benchmark.row.sights
    ++ says_cells is_only benchmark ++ codes "\n"

unfoldable pub others_rows : ℤ → Bool → List ShownBenchmark → List ℕ
others_rows limit is_only benchmarks = table_open others_head ++ flat_map (others_row limit is_only) benchmarks ++ table_close

abbrev pub others_table : ℤ → List ShownBenchmark → List ℕ
others_table limit benchmarks = others_rows limit (length benchmarks == 1) (take most_rows benchmarks) ++ left_out (length benchmarks)
