-- What decides the verdict of a page: whether the sights fit, and if they do not, whether one number explains it.
use Rattle.std.specs.Prelude.{ℕ, ℤ, ◌-◌, ◌==◌, ◌&&◌, Bool, true, false, List, count_by, if◌then◌else◌, is_none, is_some, length, nat_lt}
use Rattle.th_blunders.specs.Blunders.{is_blunder}
use Rattle.th_explain_texts.specs.declared.rows.Row.{Row}
use Rattle.th_html.specs.Shown.{moved_count}
use Rattle.th_picture.specs.declared.drawn.DrawnSight.{DrawnSight}
use Rattle.th_reliability.specs.declared.mistakes.Mistake.{Mistake}
use Rattle.th_reliability.specs.declared.mistakes.Mistake.TheVariants as mistake
use Rattle.th_reliability.specs.declared.mistakes.SharedMistake.{SharedMistake}
use Rattle.th_reliability.specs.declared.mistakes.SharedMistake.TheVariants as shared
use Rattle.th_review_rows.specs.declared.rows.EntryRow.{EntryRow}
use Rattle.th_review_rows.specs.declared.rows.ObservationRow.{ObservationRow}
use Rattle.th_review_rows.specs.declared.rows.PointRow.{PointRow}
use Rattle.th_page.specs.Contents.{JoinedRows, ShownRows}
use Rattle.th_page.specs.declared.counts.Counts.{Counts}
use Rattle.th_page.specs.declared.verdicts.Tone.{Tone}
use Rattle.th_page.specs.declared.verdicts.Tone.TheVariants.{Good, Care, Bad}
use Rattle.th_page.specs.declared.verdicts.Verdict.{Verdict}
use Rattle.th_page.specs.declared.verdicts.Verdict.TheVariants.{Unchecked, Unlike, Fits, Doubted, Unexplained, InPart, Explained, Undecided}

-- a sight whose residual is above the limit of blunders
abbrev pub is_marked : ℤ → DrawnSight → Bool
is_marked limit sight = is_blunder limit sight.row.residual

-- how many points are benchmarks, which have no strength
abbrev pub is_fixed : PointRow → Bool
is_fixed row = is_none row.strength

abbrev pub fixed_count : List PointRow → ℕ
fixed_count points = count_by is_fixed points

-- a row that explains most, and one of these that leaves no blunder
abbrev pub is_first : Row → Bool
is_first row = row.number == 1

abbrev pub explains_all : Row → Bool
explains_all row = row.number == 1 && row.blunders == 0

-- a sight that no other checks, and a keyed-in height of which nothing checks the sights
abbrev pub is_unchecked : Mistake → Bool
is_unchecked mistake.Shows = false
is_unchecked mistake.Ties = false
is_unchecked mistake.Hides = false
is_unchecked mistake.Unchecked = true

abbrev pub is_unchecked_sight : ObservationRow → Bool
is_unchecked_sight row = is_unchecked row.mistake

abbrev pub is_unchecked_shared : SharedMistake → Bool
is_unchecked_shared shared.Shows = false
is_unchecked_shared shared.Ties = false
is_unchecked_shared shared.Drags = false
is_unchecked_shared shared.Unchecked = true

abbrev pub is_unchecked_entry : EntryRow → Bool
is_unchecked_entry row = is_unchecked_shared row.mistake

-- how many points are no benchmarks, and how many loops close: the sights less these points
abbrev pub free_count : List PointRow → ℕ
free_count points = length points - fixed_count points

abbrev pub loop_count : List PointRow → ℕ → ℕ
loop_count points sights = sights - free_count points

abbrev pub counts_of : ShownRows → JoinedRows → Counts
counts_of shown joined = record {
  sights = length shown.sights;
  marked = count_by (is_marked shown.limit) joined.sights;
  benchmarks = fixed_count shown.points;
  free = free_count shown.points;
  loops = loop_count shown.points (length shown.sights);
  rows = length shown.explanations;
  firsts = count_by is_first shown.explanations;
  explaining = count_by explains_all shown.explanations;
  moved = moved_count joined.points;
  unchecked_sights = count_by is_unchecked_sight shown.sights;
  unchecked_entries = count_by is_unchecked_entry shown.entries;
  has_outlier = is_some shown.answer.outlier;
}

-- where no sight is marked and no number explains anything: whether anything checks the heights, and if it does, whether all sights are alike
abbrev pub verdict_of_fit : Counts → Verdict
verdict_of_fit counts = if counts.loops == 0 then Unchecked else (if counts.has_outlier then Unlike else Fits)

-- where sights are marked: whether one number explains them, and whether the books say which
abbrev pub verdict_of_marks : Counts → Verdict
verdict_of_marks counts =
    if counts.rows == 0 then Unexplained
    else (if counts.explaining == 0 then InPart else (if counts.explaining == 1 then Explained else Undecided))

abbrev pub verdict_of : Counts → Verdict
verdict_of counts = if counts.marked == 0 then (if counts.rows == 0 then verdict_of_fit counts else Doubted) else verdict_of_marks counts

-- whether something is checked by nothing
abbrev pub all_checked : Counts → Bool
all_checked counts = counts.unchecked_sights == 0 && counts.unchecked_entries == 0

-- whether the heights are good, may be used with care, or are not to be used yet, where none moves; given whether all is checked
abbrev pub tone_of_verdict : Bool → Verdict → Tone
tone_of_verdict checked Fits = if checked then Good else Care
tone_of_verdict checked Unexplained = Bad
tone_of_verdict checked InPart = Bad
tone_of_verdict checked Unchecked = Care
tone_of_verdict checked Unlike = Care
tone_of_verdict checked Doubted = Care
tone_of_verdict checked Explained = Care
tone_of_verdict checked Undecided = Care

abbrev pub tone_of : Counts → Tone
tone_of counts = if nat_lt 0 counts.moved then Bad else tone_of_verdict (all_checked counts) (verdict_of counts)
