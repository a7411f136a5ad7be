-- What is usual among residuals, and a sight that is far beyond it though no limit marks it.
use Rattle.std.specs.Prelude.{◌≡◌, ◌<◌, ◌≤◌, ◌*◌, ◌/◌, ◌^◌, ◌-◌, ℕ, ℤ, pos, false, List, Option, Some, None, length, map, min, nat_lt, nat_le, slice_get, slice_index_or, unsigned_abs}
use Rattle.std.specs.List.{count_by, filter, zip}
use Rattle.th_blunders.specs.Blunders.{is_blunder}
use Rattle.th_network.specs.Networks.{Survey, weights_of}
use Rattle.th_observations.specs.Observed.{Observed}
use Rattle.th_remarks.specs.declared.residuals.Outlier.{Outlier}

-- the weighted size of the residual of a sight with this weight
abbrev pub weighted_size : ℕ × ℤ → ℕ
weighted_size sight = sight.0 * unsigned_abs sight.1

-- the weights of a survey's sights with their residuals
abbrev pub weighed : Survey → List ℤ → List (ℕ × ℤ)
weighed survey residuals = zip (weights_of survey) residuals

-- the weighted sizes that are not 0
abbrev pub sizes_of : List (ℕ × ℤ) → List ℕ
sizes_of sights = filter (λ size. nat_lt 0 size) (map weighted_size sights)

-- the median of some sizes, the lower one of the two in the middle: fewer than half are smaller, and half or more are not larger
pub record IsMedian (sizes : List ℕ) (median : ℕ) : Type 0 where
  pub smaller : 2 * count_by (λ size. nat_lt size median) sizes < length sizes
  pub not_larger : length sizes ≤ 2 * count_by (λ size. nat_le size median) sizes

-- the usual weighted size of some sights is the median of those that are not 0, if there are five or more
pub record IsUsual (sights : List (ℕ × ℤ)) (usual : ℕ) : Type 0 where
  pub enough : 5 ≤ length (sizes_of sights)
  pub median : IsMedian (sizes_of sights) usual

-- the usual weighted size, or none if there are fewer than five that are not 0
abbrev pub IsUsualOrNone : List (ℕ × ℤ) → Option ℕ → Type 0
IsUsualOrNone sights None = length (sizes_of sights) < 5
IsUsualOrNone sights (Some usual) = IsUsual sights usual

-- a weighted size is far beyond the usual one if it is more than eight times as large
abbrev pub far_beyond : ℕ → ℕ
far_beyond usual = 8 * usual

-- the weight and the residual of the sight at a place
abbrev pub sight_at : List (ℕ × ℤ) → ℕ → ℕ × ℤ
sight_at sights place = slice_index_or sights place (0, pos 0)

-- the weighted size of the sight at a place
abbrev pub size_at : List (ℕ × ℤ) → ℕ → ℕ
size_at sights place = weighted_size (sight_at sights place)

-- one of the first `count` sights is at this place, and the limit does not mark it
pub record IsUnmarked (limit : ℤ) (sights : List (ℕ × ℤ)) (count place : ℕ) : Type 0 where
  pub within : place < count
  pub unmarked : is_blunder limit (sight_at sights place).1 ≡ false

-- of the first `count` sights, the first of the unmarked ones with the largest weighted size
pub record IsLargestUnmarked (limit : ℤ) (sights : List (ℕ × ℤ)) (count place : ℕ) : Type 0 where
  pub there : IsUnmarked limit sights count place
  pub largest : (other : ℕ) → IsUnmarked limit sights count other → size_at sights other ≤ size_at sights place
  pub first : (other : ℕ) → other < place → IsUnmarked limit sights count other → size_at sights other < size_at sights place

-- that sight, if one of the first `count` is unmarked
abbrev pub IsFarthest : ℤ → List (ℕ × ℤ) → ℕ → Option ℕ → Type 0
IsFarthest limit sights count None = (place : ℕ) → IsUnmarked limit sights count place → ⊥
IsFarthest limit sights count (Some place) = IsLargestUnmarked limit sights count place

-- at most so many times is counted, and so large a limit is proposed
abbrev pub most : ℕ
most = 2 ^ 32 - 1

-- how many times one size is as large as another, in whole numbers
abbrev pub times_as_large : ℕ → ℕ → ℕ
times_as_large size usual = min (size / usual) most

-- the limit, in whole micrometres, at which the size of a residual of this weight is no more than eight times the usual one
abbrev pub proposed_limit : ℕ → ℕ → ℕ
proposed_limit weight usual = min (far_beyond usual / (100 * weight)) most

-- the note names the unmarked sight with the largest weighted size, which is far beyond the usual one, and a limit that marks it
pub record IsOutlier (given : ℤ) (observations : List Observed) (sights : List (ℕ × ℤ)) (note : Outlier) : Type 0 where
  pub usual : ℕ
  pub is_usual : IsUsual sights usual
  pub place : ℕ
  pub farthest : IsLargestUnmarked given sights (length sights) place
  pub beyond : far_beyond usual < size_at sights place
  pub o : Observed
  pub observed : slice_get observations place ≡ Some o
  pub book : note.book ≡ o.book
  pub line : note.line ≡ o.line
  pub size : note.size ≡ unsigned_abs (sight_at sights place).1
  pub times : note.times ≡ times_as_large (size_at sights place) usual
  pub limit : note.limit ≡ proposed_limit (sight_at sights place).0 usual

-- the note on a sight far beyond the usual size; there is none if no unmarked sight is
abbrev pub IsOutlierNote : Survey → List ℤ → ℤ → Option Outlier → Type 0
IsOutlierNote survey residuals limit None =
    (usual place : ℕ) → IsUsual (weighed survey residuals) usual → IsUnmarked limit (weighed survey residuals) (length residuals) place
    → size_at (weighed survey residuals) place ≤ far_beyond usual
IsOutlierNote survey residuals limit (Some note) = IsOutlier limit survey.observations (weighed survey residuals) note
