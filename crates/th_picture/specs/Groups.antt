-- The groups of sights.
use Rattle.std.specs.Prelude.{ℕ, ◌==◌, Bool, ◌&&◌, List, [], ◌∷◌, count_by, if◌then◌else◌, nat_le, nat_lt, sum_by}
use Rattle.th_answer.specs.declared.answers.Group.{Group}
use Rattle.th_answer.specs.declared.answers.Group.TheVariants.{Cleared, Fits, Question, Stays, Unlike}
use Rattle.th_picture.specs.declared.drawn.DrawnSight.{DrawnSight}

-- the letter of a group: `a`, `s`, `c`, `v` or `q`
abbrev pub letter_of : Group → ℕ
letter_of Question = 97
letter_of Stays = 115
letter_of Cleared = 99
letter_of Unlike = 118
letter_of Fits = 113

abbrev pub is_in : Group → DrawnSight → Bool
is_in group sight = letter_of sight.group == letter_of group

-- how many sights a group has
abbrev pub group_count : Group → List DrawnSight → ℕ
group_count group sights = count_by (is_in group) sights

-- the groups, in the order in which they are drawn: what fits lies under what is in question
abbrev pub groups : List Group
groups = Fits ∷ Unlike ∷ Cleared ∷ Stays ∷ Question ∷ []

-- a group of at most so many sights has thick lines
abbrev pub few : ℕ
few = 60

-- a group with more sights is not drawn
abbrev pub most_of : Group → ℕ
most_of Question = 2000
most_of Stays = 2000
most_of Cleared = 2000
most_of Unlike = 2000
most_of Fits = 4000

-- whether a group has sights, and whether these are drawn
abbrev pub occurs : List DrawnSight → Group → Bool
occurs sights group = nat_lt 0 (group_count group sights)

abbrev pub is_drawn : List DrawnSight → Group → Bool
is_drawn sights group = occurs sights group && nat_le (group_count group sights) (most_of group)

-- how many sights of a group are not drawn
unfoldable pub undrawn_in : List DrawnSight → Group → ℕ
undrawn_in sights group = if nat_le (group_count group sights) (most_of group) then 0 else group_count group sights

-- how many sights are not drawn
abbrev pub undrawn_count : List DrawnSight → ℕ
undrawn_count sights = sum_by (undrawn_in sights) groups
