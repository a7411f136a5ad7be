-- The picture.
use Rattle.std.specs.Prelude.{ℕ, ◌+◌, List, [], ◌++◌, codes, decimal, if◌then◌else◌, length, nat_le, nat_lt}
use Rattle.std.specs.Int.{abs_diff}
use Rattle.std.specs.List.{flat_map}
use Rattle.th_html.specs.Lengths.{sized_text}
use Rattle.th_picture.specs.Curves.{group_lines}
use Rattle.th_picture.specs.Gaps.{gap_lines}
use Rattle.th_picture.specs.Lines.{label_end, line_open}
use Rattle.th_picture.specs.Names.{depth_of, longest_of, name_lines, turn_of}
use Rattle.th_picture.specs.Points.{point_lines}
use Rattle.th_picture.specs.Scales.{high_of, lines_of, raise, scale_of, y_of}
use Rattle.th_picture.specs.declared.drawn.DrawnPoint.{DrawnPoint}
use Rattle.th_picture.specs.declared.drawn.DrawnSight.{DrawnSight}
use Rattle.th_picture.specs.declared.names.Turn.{Turn}
use Rattle.th_picture.specs.declared.scales.Frame.{Frame}
use Rattle.th_picture.specs.declared.scales.Scale.{Scale}

-- the beginning
unfoldable pub open_text : ℕ → List ℕ
open_text height = codes "<svg viewBox=\"0 0 8000 " ++ decimal height ++ codes "\" role=\"img\" aria-label=\"Heights of points and sights\">\n"

-- a line of the scale at a raised height
unfoldable pub tick_text : Scale → ℕ → List ℕ
tick_text scale at = line_open (y_of scale at) ++ sized_text (nat_lt at raise) (abs_diff at raise) ++ label_end

-- if the scale has it
abbrev pub tick_at : Scale → ℕ → List ℕ
tick_at scale at = if nat_le at (high_of scale) then tick_text scale at else []

unfoldable pub scale_lines : Scale → List ℕ
scale_lines scale = codes "<g class=\"n e\">\n<text x=\"840\" y=\"260\">metres</text>\n" ++ flat_map (tick_at scale) (lines_of scale) ++ codes "</g>\n"

-- what is drawn in a frame
unfoldable pub drawing : Frame → Turn → List DrawnPoint → List DrawnSight → List ℕ
drawing frame turn points sights =
    scale_lines frame.scale ++ name_lines frame turn points ++ group_lines frame sights ++ point_lines frame points
    ++ gap_lines frame sights ++ codes "</svg>\n"

abbrev pub frame_of : List DrawnPoint → Frame
frame_of points = record { scale = scale_of points; points = length points }

unfoldable pub turned_picture : Frame → ℕ → Turn → List DrawnPoint → List DrawnSight → List ℕ
turned_picture frame longest turn points sights = open_text (3560 + depth_of turn longest) ++ drawing frame turn points sights

-- the picture of points and sights
abbrev pub picture_text : List DrawnPoint → List DrawnSight → List ℕ
picture_text points sights =
    turned_picture (frame_of points) (longest_of points) (turn_of (length points) (longest_of points)) points sights
