-- Where a sight belongs.
use Rattle.std.specs.Prelude.{ℕ, ℤ, ◌==◌, ◌&&◌, Bool, false, List, Option, Some, None, if◌then◌else◌, nat_lt}
use Rattle.std.specs.List.{list_all, list_any}
use Rattle.th_observations.specs.Observed.{Observed}
use Rattle.th_blunders.specs.Blunders.{blunders_at, is_blunder}
use Rattle.th_network.specs.Heights.{residual}
use Rattle.th_network.specs.Networks.{Survey}
use Rattle.th_remarks.specs.Outliers.{far_beyond, weighted_size}
use Rattle.th_tables.specs.Rows.{weight_of}
use Rattle.th_answer.specs.Corrected.{Corrected}
use Rattle.th_answer.specs.Remedies.{has_sight}
use Rattle.th_answer.specs.declared.answers.Group.{Group}
use Rattle.th_answer.specs.declared.answers.Group.TheVariants.{Question, Stays, Cleared, Unlike, Fits}
use Rattle.th_answer.specs.declared.remedies.Remedy.{Remedy}

-- what sights are judged by: the survey at its lowest best heights with the limit of blunders, what puts the first rows right, the survey with
-- each of them put right, whether nothing is wrong, and the usual weighted size, if there is one
pub record Judged : Type 0 where
  pub survey : Survey
  pub heights : List ℕ → ℤ
  pub limit : ℤ
  pub remedies : List Remedy
  pub corrected : List Corrected
  pub is_quiet : Bool
  pub usual : Option ℕ

-- whether nothing is wrong: there is no first row, and no sight is marked
abbrev pub nothing_is_wrong : Survey → (List ℕ → ℤ) → ℤ → ℕ → Bool
nothing_is_wrong survey heights limit firsts = firsts == 0 && blunders_at limit survey heights == 0

-- whether one of the numbers that explain most has the sight
abbrev pub is_in_question : Judged → Observed → Bool
is_in_question own o = list_any (λ remedy. has_sight remedy o) own.remedies

-- whether the sight is marked
abbrev pub is_marked : Judged → Observed → Bool
is_marked own o = is_blunder own.limit (residual o own.heights)

-- whether it is marked once a row is put right
abbrev pub is_marked_then : ℤ → Observed → Corrected → Bool
is_marked_then limit o after = is_blunder limit (residual (after.observation o) after.heights)

-- whether it is marked whichever of the rows is put right
abbrev pub stays_marked : Judged → Observed → Bool
stays_marked own o = list_all (is_marked_then own.limit o) own.corrected

-- whether a weighted size is far beyond the usual one
abbrev pub is_beyond : Option ℕ → ℕ → Bool
is_beyond None size = false
is_beyond (Some usual) size = nat_lt (far_beyond usual) size

-- the weighted size of the residual of a sight
abbrev pub size_of : Judged → Observed → ℕ
size_of own o = weighted_size (weight_of own.survey.weights o.station o.target, residual o own.heights)

-- whether nothing is wrong, and yet the sight is far beyond the usual residual
abbrev pub is_unlike : Judged → Observed → Bool
is_unlike own o = own.is_quiet && is_beyond own.usual (size_of own o)

-- the first group that a sight is in, given whether it is in question, marked, marked whichever row is put right, and unlike the others
abbrev pub first_group : Bool → Bool → Bool → Bool → Group
first_group question marked stays unlike = if question then Question else (if marked then (if stays then Stays else Cleared) else (if unlike then Unlike else Fits))

abbrev pub group_of : Judged → Observed → Group
group_of own o = first_group (is_in_question own o) (is_marked own o) (stays_marked own o) (is_unlike own o)
