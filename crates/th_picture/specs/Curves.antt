-- The sights in the picture.
use Rattle.std.specs.Prelude.{ℕ, ◌+◌, ◌-◌, ◌*◌, ◌/◌, ◌%◌, List, [], ◌∷◌, ◌++◌, codes, if◌then◌else◌, nat_le}
use Rattle.std.specs.List.{flat_map}
use Rattle.th_answer.specs.declared.answers.Group.{Group}
use Rattle.th_html.specs.Places.{found_text}
use Rattle.th_picture.specs.Groups.{few, group_count, groups, is_drawn, is_in, letter_of}
use Rattle.th_picture.specs.Lines.{pair_text}
use Rattle.th_picture.specs.Scales.{height_y, moved, raised, x_of, y_of}
use Rattle.th_picture.specs.declared.drawn.DrawnSight.{DrawnSight}
use Rattle.th_picture.specs.declared.scales.Frame.{Frame}
use Rattle.th_review_rows.specs.declared.rows.End.{End}

-- where an end is
abbrev pub end_x : Frame → End → ℕ
end_x frame end = x_of end.place frame.points

-- where the station and the target of a sight are, and where the sight puts its target
abbrev pub station_y : Frame → DrawnSight → ℕ
station_y frame sight = height_y frame.scale sight.station_height

abbrev pub target_y : Frame → DrawnSight → ℕ
target_y frame sight = height_y frame.scale sight.target_height

abbrev pub sighted_y : Frame → DrawnSight → ℕ
sighted_y frame sight = y_of frame.scale (moved (raised sight.station_height) sight.row.observation.difference)

-- what a sight's bend divides by: 32, 64 or 96, so that sights repeated in a row do not lie on each other
abbrev pub flatness : ℕ → ℕ
flatness number = 32 * (number % 3 + 1)

-- the height of a bend: below the line by the part of x, above it by that of u
abbrev pub bent : ℕ → ℕ → ℕ → ℕ → ℕ
bent y x u flat = y + x / flat - u / flat

-- a curve from (x, y) to (u, v) in two halves: it bends up if it runs to the right, and down if to the left
unfoldable pub curve_text : ℕ → ℕ → ℕ → ℕ → ℕ → List ℕ
curve_text flat x y u v =
    pair_text (codes "M") x y ++ pair_text (codes "Q") ((3 * x + u) / 4) (bent ((3 * y + v) / 4) x u flat)
    ++ pair_text (codes " ") ((x + u) / 2) (bent ((y + v) / 2) x u flat) ++ pair_text (codes "T") u v

-- the curve of a sight, from its station to where it puts its target
abbrev pub sight_curve : Frame → DrawnSight → List ℕ
sight_curve frame sight =
    curve_text (flatness sight.row.number) (end_x frame sight.row.from) (station_y frame sight) (end_x frame sight.row.to) (sighted_y frame sight)

-- a sight
unfoldable pub sight_path : Frame → DrawnSight → List ℕ
sight_path frame sight = codes "<path d=\"" ++ sight_curve frame sight ++ codes "\"><title>" ++ found_text sight.row ++ codes "</title></path>\n"

-- a sight, if it is in a group
abbrev pub path_in : Frame → Group → DrawnSight → List ℕ
path_in frame group sight = if is_in group sight then sight_path frame sight else []

abbrev pub few_text : ℕ → List ℕ
few_text count = if nat_le count few then codes " few" else []

-- a group
unfoldable pub group_text : Frame → List DrawnSight → Group → List ℕ
group_text frame sights group =
    codes "<g class=\"" ++ letter_of group ∷ [] ++ few_text (group_count group sights) ++ codes "\">\n"
    ++ flat_map (path_in frame group) sights ++ codes "</g>\n"

-- a group, if it is drawn
abbrev pub drawn_group : Frame → List DrawnSight → Group → List ℕ
drawn_group frame sights group = if is_drawn sights group then group_text frame sights group else []

-- all groups
abbrev pub group_lines : Frame → List DrawnSight → List ℕ
group_lines frame sights = flat_map (drawn_group frame sights) groups
