-- The gaps of sights in question, and of those that do not fit.
use Rattle.std.specs.Prelude.{ℕ, ◌-◌, Bool, ◌&&◌, List, [], ◌++◌, codes, count_by, decimal, if◌then◌else◌, nat_le}
use Rattle.std.specs.Int.{abs_diff}
use Rattle.std.specs.List.{flat_map}
use Rattle.th_answer.specs.declared.answers.Group.{Group}
use Rattle.th_answer.specs.declared.answers.Group.TheVariants.{Question, Stays}
use Rattle.th_picture.specs.Curves.{end_x, sighted_y, target_y}
use Rattle.th_picture.specs.Groups.{is_drawn, is_in}
use Rattle.th_picture.specs.Lines.{pair_text}
use Rattle.th_picture.specs.declared.drawn.DrawnSight.{DrawnSight}
use Rattle.th_picture.specs.declared.scales.Frame.{Frame}

-- a sight ends away from its target if it is drawn so far from it, at least
abbrev pub nearest : ℕ
nearest = 40

abbrev pub ends_away : Frame → DrawnSight → Bool
ends_away frame sight = nat_le nearest (abs_diff (sighted_y frame sight) (target_y frame sight))

-- whether a sight of a group ends away from its target
abbrev pub has_gap : Frame → Group → DrawnSight → Bool
has_gap frame group sight = is_in group sight && ends_away frame sight

abbrev pub gap_count : Frame → Group → List DrawnSight → ℕ
gap_count frame group sights = count_by (has_gap frame group) sights

-- the gaps of a group are drawn if it has at most so many
abbrev pub most_gaps : ℕ
most_gaps = 20

-- the line of a gap from v to y, and a cross at v
unfoldable pub gap_shape : ℕ → ℕ → ℕ → List ℕ
gap_shape x v y =
    pair_text (codes "<path class=\"gap\" d=\"M") x v ++ codes "V" ++ decimal y
    ++ pair_text (codes "\"/><path class=\"cross\" d=\"M") (x - 40) (v - 40) ++ codes "l80 80m0-80l-80 80\"/>\n"

-- the gap of a sight of a group, if it has one
abbrev pub gap_of : Frame → Group → DrawnSight → List ℕ
gap_of frame group sight =
    if has_gap frame group sight then gap_shape (end_x frame sight.row.to) (sighted_y frame sight) (target_y frame sight) else []

-- the gaps of a group, if it is drawn and has few
abbrev pub shows_gaps : Frame → List DrawnSight → Group → Bool
shows_gaps frame sights group = is_drawn sights group && nat_le (gap_count frame group sights) most_gaps

abbrev pub gaps_of : Frame → List DrawnSight → Group → List ℕ
gaps_of frame sights group = if shows_gaps frame sights group then flat_map (gap_of frame group) sights else []

-- all gaps
unfoldable pub gap_lines : Frame → List DrawnSight → List ℕ
gap_lines frame sights = gaps_of frame sights Stays ++ gaps_of frame sights Question
