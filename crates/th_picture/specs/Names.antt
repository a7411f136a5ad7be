-- The names under the picture.
use Rattle.std.specs.Prelude.{ℕ, ◌+◌, ◌*◌, ◌/◌, ◌%◌, ◌==◌, Bool, List, [], ◌++◌, codes, decimal, fold, if◌then◌else◌, length, max, min, nat_le}
use Rattle.std.specs.List.{enumerate_from, flat_map}
use Rattle.th_html.specs.Texts.{escaped}
use Rattle.th_picture.specs.Lines.{pair_text}
use Rattle.th_picture.specs.Scales.{height_y, x_of}
use Rattle.th_picture.specs.declared.drawn.DrawnPoint.{DrawnPoint}
use Rattle.th_picture.specs.declared.names.Turn.{Turn}
use Rattle.th_picture.specs.declared.names.Turn.TheVariants.{Level, Upright}
use Rattle.th_picture.specs.declared.scales.Frame.{Frame}

-- the length of the longest name, which has at most 16 bytes
abbrev pub longer : ℕ → DrawnPoint → ℕ
longer most point = max most (length point.row.name)

abbrev pub longest_of : List DrawnPoint → ℕ
longest_of points = min (fold longer 0 points) 16

-- names are level if they fit side by side, else upright
abbrev pub turn_of : ℕ → ℕ → Turn
turn_of count longest = if nat_le longest (70 / max count 1) then Level else Upright

-- how much room names need
abbrev pub depth_of : Turn → ℕ → ℕ
depth_of Level longest = 160
depth_of Upright longest = 100 + 90 * longest

-- names are written at each point, or at each second, third .. one, so that there are fewer than twice so many
abbrev pub names : ℕ
names = 30

-- whether number k, from 0, of a count is written, if fewer than twice so many are written
abbrev pub is_written : ℕ → ℕ → ℕ → Bool
is_written count many k = k % max (count / many) 1 == 0

-- the beginning of a name at x; an upright one has its foot at y
unfoldable pub level_open : ℕ → List ℕ
level_open x = codes "<text class=\"m\" x=\"" ++ decimal x ++ codes "\" y=\"3650\">"

unfoldable pub upright_open : ℕ → List ℕ
upright_open y = codes "<text class=\"e\" x=\"-3560\" y=\"" ++ decimal y ++ codes "\" transform=\"rotate(-90)\">"

abbrev pub name_open : Turn → ℕ → List ℕ
name_open Level x = level_open x
name_open Upright x = upright_open (x + 35)

-- a line from a point to its name, and the name
unfoldable pub name_text : Turn → ℕ → ℕ → DrawnPoint → List ℕ
name_text turn x y point =
    pair_text (codes "<path class=\"d\" d=\"M") x y ++ codes "V3500\"/>" ++ name_open turn x ++ escaped point.row.name ++ codes "</text>\n"

-- the name of point k, from 0, if it is written
abbrev pub name_of : Frame → Turn → ℕ × DrawnPoint → List ℕ
name_of frame turn (k, point) =
    if is_written frame.points names k then name_text turn (x_of k frame.points) (height_y frame.scale point.height) point else []

-- all names
unfoldable pub name_lines : Frame → Turn → List DrawnPoint → List ℕ
name_lines frame turn points = codes "<g class=\"n\">\n" ++ flat_map (name_of frame turn) (enumerate_from 0 points) ++ codes "</g>\n"
