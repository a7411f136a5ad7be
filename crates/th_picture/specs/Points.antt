-- The points in the picture.
use Rattle.std.specs.Prelude.{ℕ, ◌-◌, Bool, ◌&&◌, List, [], Option, None, Some, ◌++◌, codes, decimal, if◌then◌else◌, int_lt, nat_le}
use Rattle.std.specs.List.{enumerate_from, flat_map}
use Rattle.std.specs.Ordering.{int_eq}
use Rattle.th_html.specs.Lengths.{height_text}
use Rattle.th_html.specs.Texts.{escaped}
use Rattle.th_picture.specs.Groups.{few}
use Rattle.th_picture.specs.Lines.{pair_text}
use Rattle.th_picture.specs.Scales.{height_y, x_of}
use Rattle.th_picture.specs.declared.drawn.DrawnPoint.{DrawnPoint}
use Rattle.th_picture.specs.declared.scales.Frame.{Frame}

-- whether a point is drawn at the lowest of its best heights
abbrev pub is_lowest : DrawnPoint → Bool
is_lowest point = int_eq point.height point.row.low

-- the name of a point, with its height if it is drawn there: no height is shown where another one is drawn
unfoldable pub low_text : DrawnPoint → List ℕ
low_text point = codes " " ++ height_text point.row.low

abbrev pub low_if : DrawnPoint → List ℕ
low_if point = if is_lowest point then low_text point else []

unfoldable pub title_text : DrawnPoint → List ℕ
title_text point = codes "<title>" ++ escaped point.row.name ++ low_if point ++ codes "</title>"

-- a benchmark
unfoldable pub benchmark_shape : ℕ → ℕ → DrawnPoint → List ℕ
benchmark_shape x y point = pair_text (codes "<path class=\"k\" d=\"M") x (y - 75) ++ codes "l70 120h-140z\">" ++ title_text point ++ codes "</path>\n"

-- how high the best heights of a point reach, if it is drawn at the lowest of them and they differ
unfoldable pub play_shape : ℕ → ℕ → ℕ → List ℕ
play_shape x y high = pair_text (codes "<path class=\"p\" d=\"M") x y ++ codes "V" ++ decimal high ++ codes "\"/>"

abbrev pub has_play : DrawnPoint → Bool
has_play point = is_lowest point && int_lt point.row.low point.row.high

abbrev pub play_of : Frame → ℕ → ℕ → DrawnPoint → List ℕ
play_of frame x y point = if has_play point then play_shape x y (height_y frame.scale point.row.high) else []

-- dots of more points would hide the sights, and are too small to be pointed at
abbrev pub many : ℕ
many = 1000

-- the radius of a dot, among so many points
abbrev pub radius_text : ℕ → List ℕ
radius_text count = if nat_le count few then codes "38" else if nat_le count many then codes "20" else codes "6"

unfoldable pub circle_text : ℕ → ℕ → List ℕ → List ℕ
circle_text x y radius = codes "<circle cx=\"" ++ decimal x ++ codes "\" cy=\"" ++ decimal y ++ codes "\" r=\"" ++ radius ++ codes "\">"

-- the title of a dot, among so many points
abbrev pub dot_title : ℕ → DrawnPoint → List ℕ
dot_title count point = if nat_le count many then title_text point else []

-- another point
unfoldable pub dot_shape : Frame → ℕ → ℕ → DrawnPoint → List ℕ
dot_shape frame x y point = play_of frame x y point ++ circle_text x y (radius_text frame.points) ++ dot_title frame.points point ++ codes "</circle>\n"

-- a benchmark has no strength
abbrev pub shape_of : Frame → ℕ → ℕ → DrawnPoint → Option ℕ → List ℕ
shape_of frame x y point None = benchmark_shape x y point
shape_of frame x y point (Some strength) = dot_shape frame x y point

-- point k, from 0
abbrev pub point_shape : Frame → ℕ × DrawnPoint → List ℕ
point_shape frame (k, point) = shape_of frame (x_of k frame.points) (height_y frame.scale point.height) point point.row.strength

-- all points, in point order
unfoldable pub point_lines : Frame → List DrawnPoint → List ℕ
point_lines frame points = codes "<g class=\"dots\">\n" ++ flat_map (point_shape frame) (enumerate_from 0 points) ++ codes "</g>\n"
