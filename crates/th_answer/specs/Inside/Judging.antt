-- What a sight is judged by, in lists.
use Rattle.std.specs.Prelude.{◌≡◌, ℕ, ℤ, pos, ◌&&◌, Bool, false, List, slice_index_or}
use Rattle.std.specs.List.{AllZip, list_all, list_any}
use Rattle.th_observations.specs.Observed.{Observed}
use Rattle.th_blunders.specs.Blunders.{is_blunder}
use Rattle.th_blunders.specs.Residuals.{residuals}
use Rattle.th_network.specs.Networks.{weights_of}
use Rattle.th_remarks.specs.Outliers.{weighted_size}
use Rattle.th_answer.specs.Corrected.{Corrected}
use Rattle.th_answer.specs.Groups.{Judged, first_group, is_beyond}
use Rattle.th_answer.specs.Inside.Readjusted.{IsListed}
use Rattle.th_answer.specs.Remedies.{has_sight}
use Rattle.th_answer.specs.declared.answers.Group.{Group}
use Rattle.th_answer.specs.declared.correcting.Readjusted.{Readjusted}
use Rattle.th_answer.specs.declared.judge.Judge.{Judge}

-- the mark at a place of a list
abbrev pub mark_in : ℕ → Readjusted → Bool
mark_in place own = slice_index_or own.marks.items place false

-- whether all lists have a mark at this place
abbrev pub all_marked : List Readjusted → ℕ → Bool
all_marked corrected place = list_all (mark_in place) corrected

-- whether one of the rows has the sight
abbrev pub is_in_any : Judge → Observed → Bool
is_in_any judge o = list_any (λ remedy. has_sight remedy o) judge.remedies.now

-- the weighted size of the residual at a place
abbrev pub size_in : Judge → ℕ → ℕ
size_in judge place = weighted_size (slice_index_or (weights_of judge.network.now) place 0, slice_index_or judge.residuals.now place (pos 0))

-- whether nothing is wrong, and the residual at a place is far beyond the usual one
abbrev pub is_unlike_at : Judge → ℕ → Bool
is_unlike_at judge place = judge.is_quiet && is_beyond judge.usual (size_in judge place)

-- the group of the sight at a place
abbrev pub group_at : Judge → ℕ → Observed → Group
group_at judge place o =
    first_group (is_in_any judge o) (is_blunder judge.limit (slice_index_or judge.residuals.now place (pos 0))) (all_marked judge.corrected.now place) (is_unlike_at judge place)

-- what a judge knows, with these heights and with the survey with each row put right
abbrev pub judged_in : Judge → (List ℕ → ℤ) → List Corrected → Judged
judged_in judge heights after = record {
  survey = judge.network.now;
  heights = heights;
  limit = judge.limit;
  remedies = judge.remedies.now;
  corrected = after;
  is_quiet = judge.is_quiet;
  usual = judge.usual;
}

-- the residuals are those at these heights, and the lists are those of the survey with each row put right
pub record IsJudge (judge : Judge) (heights : List ℕ → ℤ) (after : List Corrected) : Type 0 where
  pub residuals : judge.residuals.now ≡ residuals judge.network.now.observations heights
  pub listed : AllZip (IsListed judge.network.now judge.limit) after judge.corrected.now
