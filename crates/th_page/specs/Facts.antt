-- The facts of a page in numbers.
use Rattle.std.specs.Prelude.{ℕ, List, ◌++◌, codes, decimal}
use Rattle.th_html.specs.Lengths.{size_text}
use Rattle.th_page.specs.declared.counts.Counts.{Counts}

-- a fact: how many of what
unfoldable pub fact_item : ℕ → List ℕ → List ℕ
fact_item count what = codes "<li><b>" ++ decimal count ++ codes "</b>" ++ what ++ codes "\n"

-- the largest residual that is not marked
unfoldable pub largest_item : ℕ → List ℕ
largest_item size = codes "<li><b>" ++ size_text size ++ codes "</b>largest residual within the limit\n"

-- the facts: sights, points that are no benchmarks, and how many more sights there are than these points
unfoldable pub facts_text : Counts → ℕ → List ℕ
facts_text counts largest =
    codes "<ul class=\"facts\">\n"
    ++ fact_item counts.sights (codes "sights")
    ++ fact_item counts.free (codes "new points")
    ++ fact_item counts.loops (codes "sights to spare")
    ++ largest_item largest
    ++ codes "</ul>\n"
