-- The picture, its legend and the strip are made of pieces.
use Rattle.std.proofs.Common.{◌≡◌, ◌+◌, ◌-◌, ℕ, ℤ, Bool, List, [], ◌∷◌, ◌++◌, Option, Some, None, codes, decimal, length, map, refl, ap, ap₂, ◌∙◌}
use Rattle.std.specs.Prelude.{◌&&◌, if◌then◌else◌, fold, nat_le, nat_lt, max, min, unsigned_abs}
use Rattle.std.specs.List.{flat_map, sum_by}
use Rattle.std.proofs.lemmas.List.{length-map}
use Rattle.std.proofs.lemmas.List.Folds.{fold-map}
use Rattle.th_answer.specs.declared.answers.Group.{Group}
use Rattle.th_answer.specs.declared.answers.Group.TheVariants.{Question, Stays}
use Rattle.th_html.specs.Lengths.{signed_text}
use Rattle.th_html.specs.Places.{ends_text, found_text, place_text}
use Rattle.th_observations.specs.Observed.{Observed}
use Rattle.th_picture.specs.Groups.{group_count, groups, is_drawn, is_in, letter_of, most_of, occurs, undrawn_count, undrawn_in}
use Rattle.th_picture.specs.Lines.{pair_text}
use Rattle.th_picture.specs.Scales.{greatest_of, height_y, higher, least_of, lower, raised, scale_between, step_of, x_of}
use Rattle.th_picture.specs.Curves.{drawn_group, few_text, group_text, path_in, sight_curve, sight_path}
use Rattle.th_picture.specs.Gaps.{gap_count, gap_lines, gap_of, gaps_of, has_gap, most_gaps, shows_gaps}
use Rattle.th_picture.specs.Legends.{legend_groups, legend_text, sample_of, sample_text, words_of}
use Rattle.th_picture.specs.Names.{depth_of, is_written, longer, longest_of, name_lines, name_of, name_open, name_text, names, turn_of}
use Rattle.th_picture.specs.Points.{benchmark_shape, circle_text, dot_shape, low_if, low_text, many, play_of, point_lines, point_shape, radius_text, shape_of, title_text}
use Rattle.th_picture.specs.Pictures.{drawing, frame_of, open_text, picture_text, scale_lines, turned_picture}
use Rattle.th_picture.specs.Strips as strip
use Rattle.th_picture.specs.declared.drawn.DrawnPoint.{DrawnPoint}
use Rattle.th_picture.specs.declared.drawn.DrawnSight.{DrawnSight}
use Rattle.th_page.specs.Laws.{Given, observed_named, point_named, sight_named}
use Rattle.th_page.proofs.Fillings.{IsFilled, Keeps, ◌⊕◌, changed, chosen, counted, each, name, placed, same, still}

-- points and sights with what is given
abbrev pub dot_named : Given → DrawnPoint → DrawnPoint
dot_named given point = record point { row = point_named given point.row }

abbrev pub drawn_named : Given → DrawnSight → DrawnSight
drawn_named given sight = record sight { row = sight_named given sight.row }

-- ---- places and names
pub ends : (o : Observed) → IsFilled (λ given. ends_text (observed_named given o))
unfolding ends_text
ends o = still (place_text o.book o.line ++ codes " ") ⊕ name o.station ⊕ still (codes " to ") ⊕ name o.target

found : (sight : DrawnSight) → IsFilled (λ given. found_text (sight_named given sight.row))
unfolding found_text
found sight = ends sight.row.observation ⊕ still (codes ", ") ⊕ still (signed_text sight.row.residual)

-- ---- points
of_title : (point : DrawnPoint) → IsFilled (λ given. title_text (dot_named given point))
unfolding title_text low_text
of_title point = still (codes "<title>") ⊕ name point.row.name ⊕ still (low_if point) ⊕ still (codes "</title>")

of_shape : (frame : _) (x y : ℕ) (point : DrawnPoint) (strength : Option ℕ) → IsFilled (λ given. shape_of frame x y (dot_named given point) strength)
unfolding benchmark_shape dot_shape
of_shape frame x y point None = still (pair_text (codes "<path class=\"k\" d=\"M") x (y - 75) ++ codes "l70 120h-140z\">") ⊕ of_title point ⊕ still (codes "</path>\n")
of_shape frame x y point (Some strength) = still (play_of frame x y point ++ circle_text x y (radius_text frame.points)) ⊕ chosen (nat_le frame.points many) (of_title point) (still []) ⊕ still (codes "</circle>\n")

shapes : (frame : _) (points : List DrawnPoint) → IsFilled (λ given. point_lines frame (map (dot_named given) points))
unfolding point_lines
shapes frame points =
    still (codes "<g class=\"dots\">\n") ⊕ placed (point_shape frame) dot_named points (λ k point. of_shape frame (x_of k frame.points) (height_y frame.scale point.height) point point.row.strength) ⊕ still (codes "</g>\n")

of_name : (turn : _) (x y : ℕ) (point : DrawnPoint) → IsFilled (λ given. name_text turn x y (dot_named given point))
unfolding name_text
of_name turn x y point = still (pair_text (codes "<path class=\"d\" d=\"M") x y ++ codes "V3500\"/>" ++ name_open turn x) ⊕ name point.row.name ⊕ still (codes "</text>\n")

named_points : (frame : _) (turn : _) (points : List DrawnPoint) → IsFilled (λ given. name_lines frame turn (map (dot_named given) points))
unfolding name_lines
named_points frame turn points =
    still (codes "<g class=\"n\">\n")
    ⊕ placed (name_of frame turn) dot_named points (λ k point. chosen (is_written frame.points names k) (of_name turn (x_of k frame.points) (height_y frame.scale point.height) point) (still []))
    ⊕ still (codes "</g>\n")

-- ---- sights
of_path : (frame : _) (sight : DrawnSight) → IsFilled (λ given. sight_path frame (drawn_named given sight))
unfolding sight_path
of_path frame sight = still (codes "<path d=\"" ++ sight_curve frame sight ++ codes "\"><title>") ⊕ found sight ⊕ still (codes "</title></path>\n")

as_many : (group : Group) (given : Given) (sights : List DrawnSight) → group_count group (map (drawn_named given) sights) ≡ group_count group sights
as_many group given sights = counted (is_in group) (drawn_named given) sights

of_group : (frame : _) (sights : List DrawnSight) (group : Group) → IsFilled (λ given. group_text frame (map (drawn_named given) sights) group)
unfolding group_text
of_group frame sights group =
    same (λ given. codes "<g class=\"" ++ letter_of group ∷ [] ++ few_text (group_count group sights) ++ codes "\">\n") (λ given. codes "<g class=\"" ++ letter_of group ∷ [] ++ few_text (group_count group (map (drawn_named given) sights)) ++ codes "\">\n")
    (λ given keeps. ap (λ n. codes "<g class=\"" ++ letter_of group ∷ [] ++ few_text n ++ codes "\">\n") (as_many group given sights))
    (still (codes "<g class=\"" ++ letter_of group ∷ [] ++ few_text (group_count group sights) ++ codes "\">\n"))
    ⊕ changed (path_in frame group) drawn_named sights (λ sight. chosen (is_in group sight) (of_path frame sight) (still []))
    ⊕ still (codes "</g>\n")

-- what is drawn if so many sights are in a group
abbrev is_drawn_at : ℕ → Group → Bool
is_drawn_at count group = nat_lt 0 count && nat_le count (most_of group)

if_drawn : (frame : _) (sights : List DrawnSight) (group : Group) → IsFilled (λ given. drawn_group frame (map (drawn_named given) sights) group)
if_drawn frame sights group =
    same (λ given. if is_drawn sights group then group_text frame (map (drawn_named given) sights) group else []) (λ given. drawn_group frame (map (drawn_named given) sights) group)
    (λ given keeps. ap (λ n. if is_drawn_at n group then group_text frame (map (drawn_named given) sights) group else []) (as_many group given sights))
    (chosen (is_drawn sights group) (of_group frame sights group) (still []))

as_many_gaps : (frame : _) (group : Group) (given : Given) (sights : List DrawnSight) → gap_count frame group (map (drawn_named given) sights) ≡ gap_count frame group sights
as_many_gaps frame group given sights = counted (has_gap frame group) (drawn_named given) sights

gaps : (frame : _) (sights : List DrawnSight) (group : Group) → IsFilled (λ given. gaps_of frame (map (drawn_named given) sights) group)
gaps frame sights group =
    same (λ given. if shows_gaps frame sights group then flat_map (gap_of frame group) (map (drawn_named given) sights) else []) (λ given. gaps_of frame (map (drawn_named given) sights) group)
    (λ given keeps. ap₂ (λ n gaps. if is_drawn_at n group && nat_le gaps most_gaps then flat_map (gap_of frame group) (map (drawn_named given) sights) else []) (as_many group given sights) (as_many_gaps frame group given sights))
    (chosen (shows_gaps frame sights group) (changed (gap_of frame group) drawn_named sights (λ sight. still (gap_of frame group sight))) (still []))

all_gaps : (frame : _) (sights : List DrawnSight) → IsFilled (λ given. gap_lines frame (map (drawn_named given) sights))
unfolding gap_lines
all_gaps frame sights = gaps frame sights Stays ⊕ gaps frame sights Question

drawn : (frame : _) (turn : _) (points : List DrawnPoint) (sights : List DrawnSight) → IsFilled (λ given. drawing frame turn (map (dot_named given) points) (map (drawn_named given) sights))
unfolding drawing
drawn frame turn points sights =
    still (scale_lines frame.scale) ⊕ named_points frame turn points ⊕ each (λ given group. drawn_group frame (map (drawn_named given) sights) group) groups (if_drawn frame sights)
    ⊕ shapes frame points ⊕ all_gaps frame sights ⊕ still (codes "</svg>\n")

-- the frame and the room for names are those of the points without their names
least_named : (given : Given) (points : List DrawnPoint) → least_of (map (dot_named given) points) ≡ least_of points
least_named given [] = refl
least_named given (point ∷ points) = fold-map lower (dot_named given) (raised point.height) points

greatest_named : (given : Given) (points : List DrawnPoint) → greatest_of (map (dot_named given) points) ≡ greatest_of points
greatest_named given [] = refl
greatest_named given (point ∷ points) = fold-map higher (dot_named given) (raised point.height) points

longest_named : (given : Given) → Keeps given → (most : ℕ) (points : List DrawnPoint) → fold longer most (map (dot_named given) points) ≡ fold longer most points
longest_named given keeps most [] = refl
longest_named given keeps most (point ∷ points) =
    longest_named given keeps (longer most (dot_named given point)) points ∙ ap (λ n. fold longer (max most n) points) (keeps point.row.name)

frame_named : (given : Given) (points : List DrawnPoint) → frame_of (map (dot_named given) points) ≡ frame_of points
frame_named given points = λ i. record {
  scale = scale_between (least_named given points i) (greatest_named given points i) (step_of (greatest_named given points i - least_named given points i));
  points = length-map points (dot_named given) i;
}

turned : (frame : _) (longest : ℕ) (turn : _) (points : List DrawnPoint) (sights : List DrawnSight) → IsFilled (λ given. turned_picture frame longest turn (map (dot_named given) points) (map (drawn_named given) sights))
unfolding turned_picture
turned frame longest turn points sights = still (open_text (3560 + depth_of turn longest)) ⊕ drawn frame turn points sights

pub pictured : (points : List DrawnPoint) (sights : List DrawnSight) → IsFilled (λ given. picture_text (map (dot_named given) points) (map (drawn_named given) sights))
pictured points sights =
    same (λ given. turned_picture (frame_of points) (longest_of points) (turn_of (length points) (longest_of points)) (map (dot_named given) points) (map (drawn_named given) sights)) (λ given. picture_text (map (dot_named given) points) (map (drawn_named given) sights))
    (λ given keeps.
    ap (λ frame. turned_picture frame (longest_of (map (dot_named given) points)) (turn_of (length (map (dot_named given) points)) (longest_of (map (dot_named given) points))) (map (dot_named given) points) (map (drawn_named given) sights)) (frame_named given points)
    ∙ ap (λ n. turned_picture (frame_of points) (longest_of (map (dot_named given) points)) (turn_of n (longest_of (map (dot_named given) points))) (map (dot_named given) points) (map (drawn_named given) sights)) (length-map points (dot_named given))
    ∙ ap (λ n. turned_picture (frame_of points) (min n 16) (turn_of (length points) (min n 16)) (map (dot_named given) points) (map (drawn_named given) sights)) (longest_named given keeps 0 points))
    (turned (frame_of points) (longest_of points) (turn_of (length points) (longest_of points)) points sights)

-- ---- the legend and what is not drawn, in which are no names
sample_named : (sights : List DrawnSight) (firsts : ℕ) (group : Group) → IsFilled (λ given. sample_of (map (drawn_named given) sights) firsts group)
sample_named sights firsts group =
    same (λ given. sample_of sights firsts group) (λ given. sample_of (map (drawn_named given) sights) firsts group)
    (λ given keeps. ap (λ n. if nat_lt 0 n then sample_text (letter_of group) (words_of firsts group) else []) (as_many group given sights)) (still (sample_of sights firsts group))

pub legend_is : (sights : List DrawnSight) (firsts : ℕ) → IsFilled (λ given. legend_text (map (drawn_named given) sights) firsts)
unfolding legend_text
legend_is sights firsts =
    still (codes "<ul class=\"legend\">\n") ⊕ each (λ given group. sample_of (map (drawn_named given) sights) firsts group) legend_groups (sample_named sights firsts)
    ⊕ still (codes "<li><svg viewBox=\"0 0 500 160\"><path class=\"k\" d=\"M250 20l70 120h-140z\"/></svg>benchmark\n</ul>\n")

undrawn_named : (given : Given) (sights : List DrawnSight) (group : Group) → undrawn_in (map (drawn_named given) sights) group ≡ undrawn_in sights group
unfolding undrawn_in
undrawn_named given sights group = ap (λ n. if nat_le n (most_of group) then 0 else n) (as_many group given sights)

pub as_many_undrawn : (given : Given) (sights : List DrawnSight) → undrawn_count (map (drawn_named given) sights) ≡ undrawn_count sights
as_many_undrawn given sights = λ i. sum_by (λ group. undrawn_named given sights group i) groups

-- ---- the strip, in which are no names
bars : (half count : ℕ) (sights : List DrawnSight) (group : Group)
    → IsFilled (λ given. codes "<path class=\"" ++ letter_of group ∷ [] ++ codes "\" d=\"" ++ flat_map (strip.bar_in half count group) (map (drawn_named given) sights) ++ codes "\"/>\n")
bars half count sights group =
    still (codes "<path class=\"" ++ letter_of group ∷ [] ++ codes "\" d=\"") ⊕ changed (strip.bar_in half count group) drawn_named sights (λ sight. still (strip.bar_in half count group sight)) ⊕ still (codes "\"/>\n")

bar_group_is : (half : ℕ) (sights : List DrawnSight) (group : Group) → IsFilled (λ given. strip.bar_group half (map (drawn_named given) sights) group)
unfolding strip.bar_group
bar_group_is half sights group =
    same (λ given. codes "<path class=\"" ++ letter_of group ∷ [] ++ codes "\" d=\"" ++ flat_map (strip.bar_in half (length sights) group) (map (drawn_named given) sights) ++ codes "\"/>\n") (λ given. strip.bar_group half (map (drawn_named given) sights) group)
    (λ given keeps. ap (λ n. codes "<path class=\"" ++ letter_of group ∷ [] ++ codes "\" d=\"" ++ flat_map (strip.bar_in half n group) (map (drawn_named given) sights) ++ codes "\"/>\n") (length-map sights (drawn_named given)))
    (bars half (length sights) sights group)

if_occurs : (half : ℕ) (sights : List DrawnSight) (group : Group) → IsFilled (λ given. strip.bars_of half (map (drawn_named given) sights) group)
if_occurs half sights group =
    same (λ given. if occurs sights group then strip.bar_group half (map (drawn_named given) sights) group else []) (λ given. strip.bars_of half (map (drawn_named given) sights) group)
    (λ given keeps. ap (λ n. if nat_lt 0 n then strip.bar_group half (map (drawn_named given) sights) group else []) (as_many group given sights))
    (chosen (occurs sights group) (bar_group_is half sights group) (still []))

bars_are : (half : ℕ) (sights : List DrawnSight) → IsFilled (λ given. strip.bar_lines half (map (drawn_named given) sights))
unfolding strip.bar_lines
bars_are half sights =
    same (λ given. codes "<g class=\"bars\" stroke-width=\"" ++ decimal (strip.width_of (length sights)) ++ codes "\">\n") (λ given. codes "<g class=\"bars\" stroke-width=\"" ++ decimal (strip.width_of (length (map (drawn_named given) sights))) ++ codes "\">\n")
    (λ given keeps. ap (λ n. codes "<g class=\"bars\" stroke-width=\"" ++ decimal (strip.width_of n) ++ codes "\">\n") (length-map sights (drawn_named given)))
    (still (codes "<g class=\"bars\" stroke-width=\"" ++ decimal (strip.width_of (length sights)) ++ codes "\">\n"))
    ⊕ each (λ given group. strip.bars_of half (map (drawn_named given) sights) group) groups (if_occurs half sights) ⊕ still (codes "</g>\n")

labels_are : (sights : List DrawnSight) → IsFilled (λ given. strip.label_lines (map (drawn_named given) sights))
unfolding strip.label_lines strip.place_label
labels_are sights =
    still (codes "<g class=\"n e\">\n")
    ⊕ same (λ given. flat_map (strip.label_of (length sights)) (map (drawn_named given) sights)) (λ given. flat_map (strip.label_of (length (map (drawn_named given) sights))) (map (drawn_named given) sights))
    (λ given keeps. ap (λ n. flat_map (strip.label_of n) (map (drawn_named given) sights)) (length-map sights (drawn_named given)))
    (changed (strip.label_of (length sights)) drawn_named sights (λ sight. still (strip.label_of (length sights) sight)))
    ⊕ still (codes "</g>\n</svg>\n")

strip_at_is : (half : ℕ) (limit : ℤ) (sights : List DrawnSight) → IsFilled (λ given. strip.strip_at half limit (map (drawn_named given) sights))
unfolding strip.strip_at
strip_at_is half limit sights =
    still strip.open_text ⊕ still (strip.range_text (strip.offset half (unsigned_abs limit))) ⊕ still (strip.scale_lines half) ⊕ bars_are half sights ⊕ labels_are sights

pub largest_named : (limit : ℤ) (given : Given) (sights : List DrawnSight) → strip.largest_of limit (map (drawn_named given) sights) ≡ strip.largest_of limit sights
largest_named limit given sights = fold-map (strip.larger limit) (drawn_named given) 0 sights

pub strip_is : (sights : List DrawnSight) (limit : ℤ) → IsFilled (λ given. strip.strip_text (map (drawn_named given) sights) limit)
strip_is sights limit =
    same (λ given. strip.strip_at (strip.half_of limit sights) limit (map (drawn_named given) sights)) (λ given. strip.strip_text (map (drawn_named given) sights) limit)
    (λ given keeps. ap (λ largest. strip.strip_at (max largest 50000) limit (map (drawn_named given) sights)) (largest_named limit given sights))
    (strip_at_is (strip.half_of limit sights) limit sights)
