-- The report on an adjustment.
use Rattle.std.specs.Prelude.{ℕ, ℤ, ◌-◌, Bool, List, [], ◌++◌, codes, count_by, decimal, filter, if◌then◌else◌, is_some, length, slice_get}
use Rattle.std.specs.List.{enumerate_from, flat_map, zip}
use Rattle.std.specs.Option.{option_map_or}
use Rattle.th_units.specs.Metres.{metres}
use Rattle.th_observations.specs.Observed.{Observed}
use Rattle.th_tables.specs.Rows.{height_of, weight_of}
use Rattle.th_network.specs.Heights.{cost}
use Rattle.th_network.specs.Networks.{Survey, points_of}
use Rattle.th_blunders.specs.Residuals.{residuals}
use Rattle.th_blunders.specs.Blunders.{blunders, is_blunder}
use Rattle.th_blunders.specs.Opposites.{opposites}
use Rattle.th_blunders.specs.declared.pairs.Opposite.{Opposite}
use Rattle.th_columns.specs.Columns.{gap, left_in, line_end, right_in}
use Rattle.th_columns.specs.Labels.{label_line, limit_line}

-- whether a point is a benchmark
abbrev pub is_benchmark : Survey → List ℕ → Bool
is_benchmark survey name = is_some (height_of survey.benchmarks name)

-- how many points are benchmarks
abbrev pub benchmark_count : Survey → ℕ
benchmark_count survey = count_by (is_benchmark survey) (points_of survey)

-- the title
unfoldable pub title_line : List ℕ
title_line = codes "HEIGHT NETWORK REPORT" ++ line_end

-- the counts of points, benchmarks and observations
unfoldable pub count_lines : Survey → List ℕ
count_lines survey =
    label_line (codes "points") (decimal (length (points_of survey)))
    ++ label_line (codes "benchmarks") (decimal (benchmark_count survey))
    ++ label_line (codes "observations") (decimal (length survey.observations))

-- the title, and the numbers of the adjustment: the counts, the cost in units of 10 nm, and the limit of blunders
unfoldable pub head_lines : Survey → ℕ → ℤ → List ℕ
head_lines survey cost limit =
    title_line ++ count_lines survey ++ label_line (codes "cost") (decimal cost) ++ limit_line limit

-- the columns of points: name, height, and mark
unfoldable pub point_columns : List ℕ → List ℕ → List ℕ → List ℕ
point_columns name height mark = left_in 16 name ++ gap ++ right_in 20 height ++ mark ++ line_end

-- the mark after a benchmark; nothing after another point
abbrev pub benchmark_mark : Bool → List ℕ
benchmark_mark is_one = if is_one then codes "  B" else []

-- the line of a point
unfoldable pub point_line : Survey → (List ℕ → ℤ) → List ℕ → List ℕ
point_line survey heights name = point_columns name (metres (heights name)) (benchmark_mark (is_benchmark survey name))

-- the table of points, in point order
unfoldable pub point_lines : Survey → (List ℕ → ℤ) → List ℕ
point_lines survey heights = point_columns (codes "POINT") (codes "HEIGHT") [] ++ flat_map (point_line survey heights) (points_of survey)

-- the columns that identify an observation: number, book, and line in that book
unfoldable pub place_columns : List ℕ → List ℕ → List ℕ → List ℕ
place_columns number book line = right_in 5 number ++ gap ++ right_in 2 book ++ gap ++ right_in 8 line ++ gap

-- the columns of an observation's ends
unfoldable pub end_columns : List ℕ → List ℕ → List ℕ
end_columns station target = left_in 16 station ++ gap ++ left_in 16 target ++ gap

-- the last columns of residuals: weight, residual, and mark
unfoldable pub residual_columns : List ℕ → List ℕ → List ℕ → List ℕ
residual_columns weight residual mark = right_in 4 weight ++ gap ++ right_in 20 residual ++ mark ++ line_end

-- the mark after a blunder; nothing after another observation
abbrev pub blunder_mark : Bool → List ℕ
blunder_mark is_one = if is_one then codes "  *" else []

-- the columns that identify an observation, filled in
unfoldable pub place_of : ℕ → Observed → List ℕ
place_of number o = place_columns (decimal number) (decimal o.book) (decimal o.line)

-- the columns of an observation's ends, filled in
unfoldable pub ends_of : Observed → List ℕ
ends_of o = end_columns o.station o.target

-- the last columns of residuals, filled in, with the mark of a blunder
unfoldable pub residual_of : ℤ → ℕ → ℤ → List ℕ
residual_of limit weight residual = residual_columns (decimal weight) (metres residual) (blunder_mark (is_blunder limit residual))

-- the line of an observation with its number, from 1, its weight and its residual
unfoldable pub residual_line : ℤ → ℕ → Observed → ℕ → ℤ → List ℕ
residual_line limit number o weight residual = place_of number o ++ ends_of o ++ residual_of limit weight residual

-- the line of an observation, with its weight in the survey
unfoldable pub line_in : Survey → ℤ → ℕ × (Observed × ℤ) → List ℕ
line_in survey limit (number, (o, residual)) = residual_line limit number o (weight_of survey.weights o.station o.target) residual

-- the rows of the table of residuals: the observations, numbered from 1, each with its residual
abbrev pub residual_rows : Survey → List ℤ → List (ℕ × (Observed × ℤ))
residual_rows survey residuals = enumerate_from 1 (zip survey.observations residuals)

-- the header of the table of residuals
unfoldable pub residual_header : List ℕ
residual_header =
    place_columns (codes "NO") (codes "BK") (codes "LINE")
    ++ end_columns (codes "FROM") (codes "TO")
    ++ residual_columns (codes "WT") (codes "RESIDUAL") []

-- the table of residuals, in the order of the observations
unfoldable pub residual_lines : Survey → List ℤ → ℤ → List ℕ
residual_lines survey residuals limit =
    residual_header ++ flat_map (line_in survey limit) (residual_rows survey residuals)

-- the rows of the blunders
abbrev pub blunder_rows : Survey → List ℤ → ℤ → List (ℕ × (Observed × ℤ))
blunder_rows survey residuals limit = filter (λ row. is_blunder limit row.1.1) (residual_rows survey residuals)

-- the number of blunders, and then their lines from the table of residuals
unfoldable pub blunder_lines : Survey → List ℤ → ℤ → List ℕ
blunder_lines survey residuals limit =
    label_line (codes "blunders") (decimal (length (blunders limit residuals)))
    ++ flat_map (line_in survey limit) (blunder_rows survey residuals limit)

-- the columns of the numbers of an observation and of its opposite, the earlier one
unfoldable pub number_columns : Opposite → List ℕ
number_columns opposite = right_in 5 (decimal opposite.number) ++ gap ++ right_in 5 (decimal opposite.earlier) ++ gap

-- the columns of an opposite: the numbers, the ends of the later observation, and the sum of the two differences
unfoldable pub opposite_columns : Opposite → Observed → List ℕ
opposite_columns opposite later = number_columns opposite ++ ends_of later ++ right_in 20 (metres opposite.sum) ++ line_end

-- the line of an opposite; numbers of observations count from 1
unfoldable pub opposite_line : List Observed → Opposite → List ℕ
opposite_line observations opposite = option_map_or (opposite_columns opposite) (slice_get observations (opposite.number - 1)) []

-- the number of opposites, and then their lines
unfoldable pub opposite_lines : List Observed → List ℕ
opposite_lines observations =
    label_line (codes "opposites") (decimal (length (opposites observations)))
    ++ flat_map (opposite_line observations) (opposites observations)

-- the first part of the report: the title with the numbers, and the points, with an empty line after each
unfoldable pub adjusted_part : Survey → (List ℕ → ℤ) → ℕ → ℤ → List ℕ
adjusted_part survey heights cost limit = head_lines survey cost limit ++ line_end ++ point_lines survey heights ++ line_end

-- the second part of the report: the residuals, the blunders and the opposites, with an empty line between neighbours
unfoldable pub observed_part : Survey → List ℤ → ℤ → List ℕ
observed_part survey residuals limit =
    residual_lines survey residuals limit ++ line_end
    ++ blunder_lines survey residuals limit ++ line_end
    ++ opposite_lines survey.observations

-- the text of the report
unfoldable pub report_text : Survey → (List ℕ → ℤ) → ℤ → List ℕ
report_text survey heights limit =
    adjusted_part survey heights (cost survey.observations survey.weights heights) limit
    ++ observed_part survey (residuals survey.observations heights) limit
