-- The strip of residuals.
use Rattle.std.specs.Prelude.{ℕ, ℤ, ◌+◌, ◌-◌, ◌*◌, ◌/◌, false, true, List, [], ◌∷◌, ◌++◌, codes, decimal, fold, if◌then◌else◌, length, max, min, unsigned_abs}
use Rattle.std.specs.Int.{is_negative}
use Rattle.std.specs.List.{flat_map}
use Rattle.th_answer.specs.declared.answers.Group.{Group}
use Rattle.th_blunders.specs.Blunders.{is_blunder}
use Rattle.th_html.specs.Lengths.{sized_text}
use Rattle.th_html.specs.Places.{place_text}
use Rattle.th_observations.specs.Observed.{Observed}
use Rattle.th_picture.specs.Groups.{groups, is_in, letter_of, occurs}
use Rattle.th_picture.specs.Lines.{label_end, line_open}
use Rattle.th_picture.specs.Names.{is_written}
use Rattle.th_picture.specs.Scales.{x_of}
use Rattle.th_picture.specs.declared.drawn.DrawnSight.{DrawnSight}

-- the largest size of a residual that is within the limit
abbrev pub larger : ℤ → ℕ → DrawnSight → ℕ
larger limit most sight = if is_blunder limit sight.row.residual then most else max most (unsigned_abs sight.row.residual)

abbrev pub largest_of : ℤ → List DrawnSight → ℕ
largest_of limit sights = fold (larger limit) 0 sights

-- the size of which a bar is half as long as the longest: that one, or half a millimetre if it is less
abbrev pub half_of : ℤ → List DrawnSight → ℕ
half_of limit sights = max (largest_of limit sights) 50000

-- how far the bar of a size reaches from the middle: it ends at the frame if it is longer
abbrev pub offset : ℕ → ℕ → ℕ
offset half size = min (275 * size / max half 1) 550

-- the beginning
abbrev pub open_text : List ℕ
open_text = codes "<svg viewBox=\"0 0 8000 1420\" role=\"img\" aria-label=\"Residuals of sights\">\n"

-- the range within the limit
unfoldable pub range_text : ℕ → List ℕ
range_text within = codes "<rect x=\"900\" y=\"" ++ decimal (650 - within) ++ codes "\" width=\"7000\" height=\"" ++ decimal (2 * within) ++ codes "\"/>\n"

-- the lines at which bars are half as long as the longest, and the line in the middle
unfoldable pub scale_lines : ℕ → List ℕ
scale_lines half =
    codes "<g class=\"n e\">\n" ++ line_open 375 ++ codes "+" ++ sized_text false half ++ label_end ++ line_open 925 ++ sized_text true half ++ label_end
    ++ codes "</g>\n<path class=\"z\" d=\"M900 650H7900\"/>\n"

-- the bar of a residual, from x: down if it is below zero, else up
unfoldable pub bar_down : ℕ → ℕ → List ℕ
bar_down x away = codes "M" ++ decimal x ++ codes " 630V" ++ decimal (650 + away)

unfoldable pub bar_up : ℕ → ℕ → List ℕ
bar_up x away = codes "M" ++ decimal x ++ codes " 670V" ++ decimal (650 - away)

abbrev pub bar_of : ℕ → ℕ → ℤ → List ℕ
bar_of x half residual =
    if is_negative residual then bar_down x (offset half (unsigned_abs residual)) else bar_up x (offset half (unsigned_abs residual))

-- the place of a sight, from left to right
abbrev pub sight_x : ℕ → DrawnSight → ℕ
sight_x count sight = x_of (sight.row.number - 1) count

-- the bar of a sight, if it is in a group
abbrev pub bar_in : ℕ → ℕ → Group → DrawnSight → List ℕ
bar_in half count group sight = if is_in group sight then bar_of (sight_x count sight) half sight.row.residual else []

unfoldable pub bar_group : ℕ → List DrawnSight → Group → List ℕ
bar_group half sights group =
    codes "<path class=\"" ++ letter_of group ∷ [] ++ codes "\" d=\"" ++ flat_map (bar_in half (length sights) group) sights ++ codes "\"/>\n"

-- the bars of a group, if it occurs
abbrev pub bars_of : ℕ → List DrawnSight → Group → List ℕ
bars_of half sights group = if occurs sights group then bar_group half sights group else []

-- how wide a bar is
abbrev pub width_of : ℕ → ℕ
width_of count = max (min (3500 / max count 1) 80) 6

unfoldable pub bar_lines : ℕ → List DrawnSight → List ℕ
bar_lines half sights =
    codes "<g class=\"bars\" stroke-width=\"" ++ decimal (width_of (length sights)) ++ codes "\">\n" ++ flat_map (bars_of half sights) groups ++ codes "</g>\n"

-- fewer than twice so many places are written
abbrev pub places : ℕ
places = 4

unfoldable pub place_label : ℕ → Observed → List ℕ
place_label x o = codes "<text x=\"" ++ decimal x ++ codes "\" y=\"1350\">" ++ place_text o.book o.line ++ codes "</text>\n"

abbrev pub label_of : ℕ → DrawnSight → List ℕ
label_of count sight = if is_written count places (sight.row.number - 1) then place_label (sight_x count sight) sight.row.observation else []

unfoldable pub label_lines : List DrawnSight → List ℕ
label_lines sights = codes "<g class=\"n e\">\n" ++ flat_map (label_of (length sights)) sights ++ codes "</g>\n</svg>\n"

unfoldable pub strip_at : ℕ → ℤ → List DrawnSight → List ℕ
strip_at half limit sights =
    open_text ++ range_text (offset half (unsigned_abs limit)) ++ scale_lines half ++ bar_lines half sights ++ label_lines sights

-- the strip of the residuals of sights
abbrev pub strip_text : List DrawnSight → ℤ → List ℕ
strip_text sights limit = strip_at (half_of limit sights) limit sights
