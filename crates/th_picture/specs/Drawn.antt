-- Points and sights as the picture shows them.
use Rattle.std.specs.Prelude.{ℕ, ℤ, List, map, slice_index_or}
use Rattle.std.specs.List.{enumerate_from}
use Rattle.th_answer.specs.declared.answers.Group.{Group}
use Rattle.th_answer.specs.declared.answers.Group.TheVariants.{Fits}
use Rattle.th_picture.specs.declared.drawn.DrawnPoint.{DrawnPoint}
use Rattle.th_picture.specs.declared.drawn.DrawnSight.{DrawnSight}
use Rattle.th_review_rows.specs.declared.rows.ObservationRow.{ObservationRow}
use Rattle.th_review_rows.specs.declared.rows.PointRow.{PointRow}

-- the height of a place; behind the end of the heights another one
abbrev pub height_at : List ℤ → ℕ → ℤ → ℤ
height_at heights place other = slice_index_or heights place other

-- point k, from 0, with its height
abbrev pub drawn_point : List ℤ → ℕ × PointRow → DrawnPoint
drawn_point heights (k, row) = record { row = row; height = height_at heights k row.low }

abbrev pub drawn_points : List PointRow → List ℤ → List DrawnPoint
drawn_points rows heights = map (drawn_point heights) (enumerate_from 0 rows)

-- sight k, from 0, with its group and the heights of its ends
abbrev pub drawn_sight : List Group → List ℤ → ℕ × ObservationRow → DrawnSight
drawn_sight groups heights (k, row) = record {
  row = row;
  group = slice_index_or groups k Fits;
  station_height = height_at heights row.from.place row.from.low;
  target_height = height_at heights row.to.place row.to.low;
}

abbrev pub drawn_sights : List ObservationRow → List Group → List ℤ → List DrawnSight
drawn_sights rows groups heights = map (drawn_sight groups heights) (enumerate_from 0 rows)
