-- Where a sight is in the books, and what it joins.
use Rattle.std.specs.Prelude.{ℕ, List, ◌++◌, codes, decimal}
use Rattle.th_observations.specs.Observed.{Observed}
use Rattle.th_review_rows.specs.declared.rows.ObservationRow.{ObservationRow}
use Rattle.th_html.specs.Lengths.{signed_text}
use Rattle.th_html.specs.Texts.{escaped}

-- a line of a book
unfoldable pub place_text : ℕ → ℕ → List ℕ
place_text book line = decimal book ++ codes ":" ++ decimal line

-- a sight: its place and its ends
unfoldable pub ends_text : Observed → List ℕ
ends_text o = place_text o.book o.line ++ codes " " ++ escaped o.station ++ codes " to " ++ escaped o.target

-- a sight and its residual
unfoldable pub found_text : ObservationRow → List ℕ
found_text row = ends_text row.observation ++ codes ", " ++ signed_text row.residual
