-- The first lines of a review.
use Rattle.std.specs.Prelude.{ℕ, ◌-◌, Bool, true, false, List, ◌++◌, Option, None, Some, codes, count_by, decimal, fold, length, min}
use Rattle.th_network.specs.Networks.{Survey, points_of}
use Rattle.th_columns.specs.Columns.{line_end}
use Rattle.th_report.specs.Reports.{benchmark_count}
use Rattle.th_columns.specs.Labels.{label_line}
use Rattle.th_review_rows.specs.Found.{FoundRows}
use Rattle.th_review_rows.specs.Weak.{is_weak_benchmark, is_weak_entry}
use Rattle.th_review_rows.specs.Words.{number_or_dash}
use Rattle.th_reliability.specs.declared.mistakes.Mistake.{Mistake}
use Rattle.th_reliability.specs.declared.mistakes.Mistake.TheVariants as mistake
use Rattle.th_review_rows.specs.declared.rows.PointRow.{PointRow}
use Rattle.th_review_rows.specs.declared.rows.ObservationRow.{ObservationRow}
use Rattle.th_review_rows.specs.declared.rows.EntryRow.{EntryRow}
use Rattle.th_review_rows.specs.declared.rows.BenchmarkRow.{BenchmarkRow}

-- the title
unfoldable pub title_line : List ℕ
title_line = codes "HEIGHT NETWORK REVIEW" ++ line_end

-- the number of free points: those that are no benchmark
abbrev pub free_count : Survey → ℕ
free_count survey = length (points_of survey) - benchmark_count survey

-- how many loops the network closes: the observations less the free points
abbrev pub loop_count : Survey → ℕ
loop_count survey = length survey.observations - free_count survey

-- the counts of points, benchmarks, observations and loops
unfoldable pub survey_lines : Survey → List ℕ
survey_lines survey =
    label_line (codes "points") (decimal (length (points_of survey)))
    ++ label_line (codes "benchmarks") (decimal (benchmark_count survey))
    ++ label_line (codes "observations") (decimal (length survey.observations))
    ++ label_line (codes "loops") (decimal (loop_count survey))

abbrev pub is_unchecked : Mistake → Bool
is_unchecked mistake.Unchecked = true
is_unchecked mistake.Hides = false
is_unchecked mistake.Ties = false
is_unchecked mistake.Shows = false

abbrev pub is_hidden : Mistake → Bool
is_hidden mistake.Unchecked = false
is_hidden mistake.Hides = true
is_hidden mistake.Ties = false
is_hidden mistake.Shows = false

abbrev pub is_tie : Mistake → Bool
is_tie mistake.Unchecked = false
is_tie mistake.Hides = false
is_tie mistake.Ties = true
is_tie mistake.Shows = false

-- the counts of observations whose mistake is unchecked, hides or ties
unfoldable pub mistake_lines : List ObservationRow → List ℕ
mistake_lines observations =
    label_line (codes "unchecked") (decimal (count_by (λ row. is_unchecked row.mistake) observations))
    ++ label_line (codes "hidden") (decimal (count_by (λ row. is_hidden row.mistake) observations))
    ++ label_line (codes "ties") (decimal (count_by (λ row. is_tie row.mistake) observations))

-- the counts of entries, and of those whose mistake may not show
unfoldable pub entry_count_lines : List EntryRow → List ℕ
entry_count_lines entries =
    label_line (codes "entries") (decimal (length entries))
    ++ label_line (codes "weak entries") (decimal (count_by is_weak_entry entries))

-- the count of benchmarks whose wrong height may not show
unfoldable pub weak_benchmark_line : List BenchmarkRow → List ℕ
weak_benchmark_line benchmarks = label_line (codes "weak benchmark") (decimal (count_by is_weak_benchmark benchmarks))

-- the lesser of two strengths, of which one may be missing
abbrev pub lesser : Option ℕ → Option ℕ → Option ℕ
lesser None other = other
lesser (Some strength) None = Some strength
lesser (Some strength) (Some other) = Some (min strength other)

-- the least strength of some points; none if no point has one
abbrev pub weakest : List PointRow → Option ℕ
weakest points = fold (λ least row. lesser least row.strength) None points

-- the title, and the numbers of the review
unfoldable pub head_lines : FoundRows → List ℕ
head_lines found =
    title_line ++ survey_lines found.survey ++ mistake_lines found.observations ++ entry_count_lines found.entries
    ++ weak_benchmark_line found.benchmarks
    ++ label_line (codes "weakest point") (number_or_dash (weakest found.points))
