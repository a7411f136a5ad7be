-- Rows in which a mistake may not show.
use Rattle.std.specs.Prelude.{Bool, true, false, Option, None, Some}
use Rattle.th_reliability.specs.declared.mistakes.Mistake.{Mistake}
use Rattle.th_reliability.specs.declared.mistakes.Mistake.TheVariants as mistake
use Rattle.th_reliability.specs.declared.mistakes.SharedMistake.{SharedMistake}
use Rattle.th_reliability.specs.declared.mistakes.SharedMistake.TheVariants as shared
use Rattle.th_review_rows.specs.declared.rows.BenchmarkRow.{BenchmarkRow}
use Rattle.th_review_rows.specs.declared.rows.EntryRow.{EntryRow}
use Rattle.th_review_rows.specs.declared.rows.ObservationRow.{ObservationRow}

-- whether a mistake in an observation may stay hidden
abbrev pub is_weak : Mistake → Bool
is_weak mistake.Shows = false
is_weak mistake.Ties = true
is_weak mistake.Hides = true
is_weak mistake.Unchecked = true

abbrev pub is_weak_observation : ObservationRow → Bool
is_weak_observation row = is_weak row.mistake

-- whether a mistake that several observations share may not show
abbrev pub is_weak_shared : SharedMistake → Bool
is_weak_shared shared.Shows = false
is_weak_shared shared.Ties = true
is_weak_shared shared.Drags = true
is_weak_shared shared.Unchecked = true

abbrev pub is_weak_entry : EntryRow → Bool
is_weak_entry row = is_weak_shared row.mistake

-- whether a wrong height of a benchmark may not show; one without observations does nothing
abbrev pub may_be_weak : Option SharedMistake → Bool
may_be_weak None = false
may_be_weak (Some mistake) = is_weak_shared mistake

abbrev pub is_weak_benchmark : BenchmarkRow → Bool
is_weak_benchmark row = may_be_weak row.mistake
