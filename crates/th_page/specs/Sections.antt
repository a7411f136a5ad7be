-- The sections of heights, benchmarks, explanations and notes.
use Rattle.std.specs.Prelude.{ℕ, ℤ, ◌==◌, List, [], ◌∷◌, ◌++◌, codes, if◌then◌else◌}
use Rattle.std.specs.List.{flat_map}
use Rattle.th_explain_texts.specs.declared.rows.Row.{Row}
use Rattle.th_html.specs.Benchmarks.{others_table}
use Rattle.th_html.specs.Heights.{height_tables}
use Rattle.th_html.specs.Shown.{moved_count}
use Rattle.th_html.specs.Tables.{explanation_table}
use Rattle.th_html.specs.Texts.{escaped}
use Rattle.th_html.specs.declared.shown.ShownBenchmark.{ShownBenchmark}
use Rattle.th_html.specs.declared.shown.ShownPoint.{ShownPoint}
use Rattle.th_page.specs.Fixed.{benchmark_start, explanation_start, height_note, height_start, note_start, section_end}

-- which heights not to use, if some are struck out
abbrev pub struck_words : ℕ → List ℕ
struck_words count = if count == 0 then [] else codes "<span class=\"r\">Do not use the heights that are struck out.</span> "

-- all points, also if there are none
unfoldable pub height_section : List ShownPoint → List ℕ
height_section points = height_start ++ struck_words (moved_count points) ++ height_note ++ height_tables points ++ section_end

-- the other sections; one without a row is left out
unfoldable pub benchmark_section : List ShownBenchmark → ℤ → List ℕ
benchmark_section [] limit = []
benchmark_section (row ∷ rows) limit = benchmark_start ++ others_table limit (row ∷ rows) ++ section_end

unfoldable pub explanation_section : List Row → List ℕ
explanation_section [] = []
explanation_section (row ∷ rows) = explanation_start ++ explanation_table (row ∷ rows) ++ section_end

unfoldable pub note_item : List ℕ → List ℕ
note_item note = codes "<li>" ++ escaped note ++ codes "\n"

unfoldable pub note_section : List (List ℕ) → List ℕ
note_section [] = []
note_section (note ∷ notes) = note_start ++ flat_map note_item (note ∷ notes) ++ codes "</ul>\n" ++ section_end
