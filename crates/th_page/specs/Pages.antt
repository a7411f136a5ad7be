-- The page.
use Rattle.std.specs.Prelude.{ℕ, List, ◌++◌, codes}
use Rattle.th_picture.specs.Strips.{largest_of}
use Rattle.th_page.specs.Asks.{ask_section}
use Rattle.th_page.specs.Contents.{JoinedRows, ShownRows, joined_of}
use Rattle.th_page.specs.Counts.{counts_of}
use Rattle.th_page.specs.Facts.{facts_text}
use Rattle.th_page.specs.Figures.{figure_text}
use Rattle.th_page.specs.Heads.{head_part}
use Rattle.th_page.specs.Hiding.{hiding_section}
use Rattle.th_page.specs.Residuals.{residual_section}
use Rattle.th_page.specs.Sections.{benchmark_section, explanation_section, height_section, note_section}
use Rattle.th_page.specs.Verdicts.{verdict_text}
use Rattle.th_page.specs.declared.counts.Counts.{Counts}

-- the verdict, the picture and the facts
unfoldable pub front_part : Counts → ShownRows → JoinedRows → List ℕ
front_part counts shown joined =
    verdict_text counts shown joined ++ figure_text joined.dots joined.sights counts.firsts ++ facts_text counts (largest_of shown.limit joined.sights)

-- the heights, what the benchmarks say, and the residuals
unfoldable pub height_part : ShownRows → JoinedRows → List ℕ
height_part shown joined =
    height_section joined.points ++ benchmark_section joined.benchmarks shown.limit ++ residual_section joined.sights shown.limit

-- what is behind them
unfoldable pub back_part : ShownRows → List ℕ
back_part shown =
    explanation_section shown.explanations ++ hiding_section shown.sights shown.benchmarks shown.entries ++ note_section shown.notes
    ++ ask_section shown.cost shown.inputs

-- the page, given its counts and its rows with what the answer says of them
unfoldable pub page_with : Counts → ShownRows → JoinedRows → List ℕ
page_with counts shown joined =
    head_part shown.title shown.inputs shown.limit
    ++ front_part counts shown joined
    ++ height_part shown joined
    ++ back_part shown
    ++ codes "</body>\n</html>\n"

-- the text of the page
abbrev pub page_text : ShownRows → List ℕ
page_text shown = page_with (counts_of shown (joined_of shown)) shown (joined_of shown)
