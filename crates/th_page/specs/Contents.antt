-- What a page shows, as lists, and its rows with what an answer says of them.
use Rattle.std.specs.Prelude.{ℕ, ℤ, List, Option, map, zip}
use Rattle.std.specs.List.{enumerate_from}
use Rattle.th_answer.specs.declared.answers.Answer.{Answer}
use Rattle.th_answer.specs.declared.answers.Group.{Group}
use Rattle.th_answer.specs.declared.answers.Moved.{Moved}
use Rattle.th_answer.specs.declared.answers.Others.{Others}
use Rattle.th_explain_texts.specs.declared.rows.Row.{Row}
use Rattle.th_html.specs.Shown.{shown_benchmark, shown_point}
use Rattle.th_html.specs.declared.shown.ShownBenchmark.{ShownBenchmark}
use Rattle.th_html.specs.declared.shown.ShownPoint.{ShownPoint}
use Rattle.th_inputs.specs.Inputs.{NamedInput}
use Rattle.th_picture.specs.Drawn.{drawn_points, drawn_sights}
use Rattle.th_picture.specs.declared.drawn.DrawnPoint.{DrawnPoint}
use Rattle.th_picture.specs.declared.drawn.DrawnSight.{DrawnSight}
use Rattle.th_remarks.specs.declared.residuals.Outlier.{Outlier}
use Rattle.th_review_rows.specs.declared.rows.BenchmarkRow.{BenchmarkRow}
use Rattle.th_review_rows.specs.declared.rows.EntryRow.{EntryRow}
use Rattle.th_review_rows.specs.declared.rows.ObservationRow.{ObservationRow}
use Rattle.th_review_rows.specs.declared.rows.PointRow.{PointRow}
use Rattle.th_page.specs.declared.contents.Shown.{Shown}
use Rattle.th_page.specs.declared.joined.Joined.{Joined}

-- what an answer says, as lists: the group of each sight, what moves each point and where it is drawn, what the others say of the first benchmarks, and
-- the sight that is far beyond the usual residual
pub record Answered : Type 0 where
  pub groups : List Group
  pub moved : List (Option Moved)
  pub drawn : List ℤ
  pub others : List Others
  pub outlier : Option Outlier

-- what a page shows, as lists: its title, the inputs, whose names have no folders, a row for each point, sight, entry, benchmark and explanation, the
-- sentences of the explanations, notes, the least cost, the limit of blunders, and what the explanations mean
pub record ShownRows : Type 0 where
  pub title : List ℕ
  pub inputs : List NamedInput
  pub points : List PointRow
  pub sights : List ObservationRow
  pub entries : List EntryRow
  pub benchmarks : List BenchmarkRow
  pub explanations : List Row
  pub says : List (List ℕ)
  pub notes : List (List ℕ)
  pub cost : ℕ
  pub limit : ℤ
  pub answer : Answered

abbrev pub answered : Answer → Answered
answered answer = record {
  groups = answer.groups.items;
  moved = answer.moved.items;
  drawn = answer.drawn.items;
  others = answer.others.items;
  outlier = answer.outlier;
}

abbrev pub shown_by : Shown → ShownRows
shown_by shown = record {
  title = shown.title.now;
  inputs = zip (map (λ name. name.now) shown.names.now) shown.sums.now;
  points = shown.points.now;
  sights = shown.sights.now;
  entries = shown.entries.now;
  benchmarks = shown.benchmarks.now;
  explanations = shown.explained.rows.now;
  says = map (λ line. line.now) shown.says.now;
  notes = map (λ note. note.now) shown.notes.now;
  cost = shown.explained.cost;
  limit = shown.explained.limit;
  answer = answered shown.explained.answer.now;
}

-- the rows of points and benchmarks with what the answer says of them, and those of points and sights as they are drawn
pub record JoinedRows : Type 0 where
  pub points : List ShownPoint
  pub benchmarks : List ShownBenchmark
  pub dots : List DrawnPoint
  pub sights : List DrawnSight

abbrev pub joined_by : Joined → JoinedRows
joined_by joined = record {
  points = joined.points.items;
  benchmarks = joined.benchmarks.items;
  dots = joined.dots.items;
  sights = joined.sights.items;
}

abbrev pub joined_of : ShownRows → JoinedRows
joined_of shown = record {
  points = map (shown_point shown.answer.moved) (enumerate_from 0 shown.points);
  benchmarks = map (shown_benchmark shown.answer.others) (enumerate_from 0 shown.benchmarks);
  dots = drawn_points shown.points shown.answer.drawn;
  sights = drawn_sights shown.sights shown.answer.groups shown.answer.drawn;
}
