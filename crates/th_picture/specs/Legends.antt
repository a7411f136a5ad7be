-- The legend of the picture and of the strip.
use Rattle.std.specs.Prelude.{ℕ, List, [], ◌∷◌, ◌++◌, codes, if◌then◌else◌, nat_le}
use Rattle.std.specs.List.{flat_map}
use Rattle.th_answer.specs.declared.answers.Group.{Group}
use Rattle.th_answer.specs.declared.answers.Group.TheVariants.{Cleared, Fits, Question, Stays, Unlike}
use Rattle.th_picture.specs.Groups.{letter_of, occurs}
use Rattle.th_picture.specs.declared.drawn.DrawnSight.{DrawnSight}

-- what is said of a sight in question, if so many numbers explain most
abbrev pub question_words : ℕ → List ℕ
question_words firsts = if nat_le firsts 1 then codes "sight with the wrong number" else codes "sight with a number that may be wrong"

-- what is said of the sights of a group
abbrev pub words_of : ℕ → Group → List ℕ
words_of firsts Question = question_words firsts
words_of firsts Stays = codes "does not fit"
words_of firsts Cleared = codes "does not fit now, but does with the right number"
words_of firsts Unlike = codes "within the limit, but unlike the others"
words_of firsts Fits = codes "fits"

-- a line of the legend: what is drawn, and its words
unfoldable pub sample_text : ℕ → List ℕ → List ℕ
sample_text letter words =
    codes "<li><svg viewBox=\"0 0 500 160\"><path class=\"" ++ letter ∷ [] ++ codes "\" d=\"M0 80H500\"/></svg>" ++ words ++ codes "\n"

-- that of a group, if it occurs
abbrev pub sample_of : List DrawnSight → ℕ → Group → List ℕ
sample_of sights firsts group = if occurs sights group then sample_text (letter_of group) (words_of firsts group) else []

-- the groups in the order of the legend: what is in question comes first
abbrev pub legend_groups : List Group
legend_groups = Question ∷ Stays ∷ Cleared ∷ Unlike ∷ Fits ∷ []

-- the legend of some sights, if so many numbers explain most
unfoldable pub legend_text : List DrawnSight → ℕ → List ℕ
legend_text sights firsts =
    codes "<ul class=\"legend\">\n" ++ flat_map (sample_of sights firsts) legend_groups
    ++ codes "<li><svg viewBox=\"0 0 500 160\"><path class=\"k\" d=\"M250 20l70 120h-140z\"/></svg>benchmark\n</ul>\n"
