-- The rows that tables show: points and benchmarks with what an answer says of them.
use Rattle.std.specs.Prelude.{ℕ, Bool, List, Option, None, count_by, is_some, slice_get, unwrap_or}
use Rattle.th_answer.specs.declared.answers.Moved.{Moved}
use Rattle.th_answer.specs.declared.answers.Others.{Others}
use Rattle.th_html.specs.declared.shown.ShownBenchmark.{ShownBenchmark}
use Rattle.th_html.specs.declared.shown.ShownPoint.{ShownPoint}
use Rattle.th_review_rows.specs.declared.rows.BenchmarkRow.{BenchmarkRow}
use Rattle.th_review_rows.specs.declared.rows.PointRow.{PointRow}

-- a point with what moves it, given its place and what moves each point; one behind the end of these stays
abbrev pub shown_point : List (Option Moved) → ℕ × PointRow → ShownPoint
shown_point moved (k, row) = record { row = row; moved = unwrap_or (slice_get moved k) None }

-- a benchmark with what the others say of it, given its place and what they say of the first ones
abbrev pub shown_benchmark : List Others → ℕ × BenchmarkRow → ShownBenchmark
shown_benchmark others (k, row) = record { row = row; others = slice_get others k }

-- whether a point is moved, and how many are
abbrev pub is_moved : ShownPoint → Bool
is_moved point = is_some point.moved

abbrev pub moved_count : List ShownPoint → ℕ
moved_count points = count_by is_moved points
