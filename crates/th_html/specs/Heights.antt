-- The tables of heights.
use Rattle.std.specs.Prelude.{ℕ, ℤ, ◌%◌, ◌==◌, ◌&&◌, Bool, true, false, List, [], Option, None, Some, ◌++◌, codes, if◌then◌else◌, int_lt, nat_lt}
use Rattle.std.specs.List.{enumerate_from, flat_map}
use Rattle.th_answer.specs.declared.answers.Moved.{Moved}
use Rattle.th_html.specs.Cells.{height_cell, name_cell, number_cell, optional_height_cell}
use Rattle.th_html.specs.Lengths.{height_text, span_text}
use Rattle.th_html.specs.Shown.{moved_count}
use Rattle.th_html.specs.Tables.{head_end, row_open, table_close}
use Rattle.th_html.specs.declared.shown.ShownPoint.{ShownPoint}
use Rattle.th_review_rows.specs.declared.rows.PointRow.{PointRow}

-- how many points a table of heights has
abbrev pub block : ℕ
block = 20

-- the head of the last column, which is there if points are moved
abbrev pub mended_head : Bool → List ℕ
mended_head are_moved = if are_moved then codes "<td>If mended" else []

-- heights, in tables of `block` points that stand side by side where there is room
unfoldable pub heights_start : List ℕ
heights_start = codes "<div class=\"col\"><table>\n<thead><tr><th>Point<td>Height<td>up to<td>Strength"

unfoldable pub heights_open : Bool → List ℕ
heights_open are_moved = heights_start ++ mended_head are_moved ++ head_end

-- the highest best height, if it is above the lowest
abbrev pub above : PointRow → Option ℤ
above row = if int_lt row.low row.high then Some row.high else None

-- the strength; a benchmark has none
abbrev pub strength_cell : Option ℕ → List ℕ
strength_cell None = codes "<td>benchmark"
strength_cell (Some strength) = number_cell strength

-- the last cell of a point that stays
abbrev pub stays_cell : Bool → List ℕ
stays_cell are_moved = if are_moved then codes "<td>" else []

-- a point that stays
unfoldable pub staying_row : Bool → PointRow → List ℕ
staying_row are_moved row =
    row_open false ++ name_cell row.name ++ height_cell row.low ++ optional_height_cell (above row) ++ strength_cell row.strength ++ stays_cell are_moved ++ codes "\n"

-- a height that is struck out
unfoldable pub struck_cells : ℤ → List ℕ
struck_cells height = codes "<td><s>" ++ height_text height ++ codes "</s><td>"

-- the heights in its place
unfoldable pub mended_cell : Moved → List ℕ
mended_cell moved = codes "<td><b>" ++ span_text moved.low moved.high ++ codes "</b>"

-- a point that is moved
unfoldable pub moved_row : PointRow → Moved → List ℕ
moved_row row moved = row_open true ++ name_cell row.name ++ struck_cells row.low ++ strength_cell row.strength ++ mended_cell moved ++ codes "\n"

-- a point; whether some are moved
abbrev pub row_of : Bool → PointRow → Option Moved → List ℕ
row_of are_moved row None = staying_row are_moved row
row_of are_moved row (Some moved) = moved_row row moved

-- what is between two tables: nothing, but behind each `block` rows
abbrev pub break_at : Bool → ℕ → List ℕ
break_at are_moved k = if nat_lt 0 k && k % block == 0 then table_close ++ heights_open are_moved else []

unfoldable pub numbered_height : Bool → ℕ × ShownPoint → List ℕ
numbered_height are_moved (k, point) = break_at are_moved k ++ row_of are_moved point.row point.moved

unfoldable pub tables_of : Bool → List ShownPoint → List ℕ
tables_of are_moved points = heights_open are_moved ++ flat_map (numbered_height are_moved) (enumerate_from 0 points) ++ table_close

-- the heights of points: those that are moved are struck out, with others beside them
abbrev pub height_tables : List ShownPoint → List ℕ
height_tables points = tables_of (nat_lt 0 (moved_count points)) points
