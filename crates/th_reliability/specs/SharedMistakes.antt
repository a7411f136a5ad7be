use Rattle.std.specs.Prelude.{◌≡◌, ℕ, ◌+◌, ◌<◌, ◌≤◌, ◌==◌, Bool, true, List, Contains, nat_lt, if◌then◌else◌}
use Rattle.th_observations.specs.Observed.{Observed}
use Rattle.th_network.specs.Networks.{Survey, points_of}
use Rattle.th_reliability.specs.Blunders.{weight_in}
use Rattle.th_reliability.specs.Cuts.{IsFreeSet}
use Rattle.th_reliability.specs.Groups.{own_cut, rest_cut}
use Rattle.th_reliability.specs.declared.mistakes.SharedMistake.{SharedMistake}
use Rattle.th_reliability.specs.declared.mistakes.SharedMistake.TheVariants.{Shows, Ties, Drags, Unchecked}

-- the cut of a group's observations, and that of the others
abbrev pub own : Survey → (Observed → Bool) → (List ℕ → Bool) → ℕ
own survey group inside = own_cut survey.observations survey.weights group inside

abbrev pub rest : Survey → (Observed → Bool) → (List ℕ → Bool) → ℕ
rest survey group inside = rest_cut survey.observations survey.weights group inside

-- a free set that contains a point
pub record IsFreeWithPoint (survey : Survey) (inside : List ℕ → Bool) : Type 0 where
  pub free : IsFreeSet survey.benchmarks inside
  pub point : (name : List ℕ) × Contains (points_of survey) name × (inside name ≡ true)

-- such a set that the group outweighs
pub record IsOutweighed (survey : Survey) (group : Observed → Bool) (inside : List ℕ → Bool) : Type 0 where
  pub is : IsFreeWithPoint survey inside
  pub less : rest survey group inside < own survey group inside

-- such a set that the whole group crosses, and no other observation
pub record IsAlone (survey : Survey) (group : Observed → Bool) (inside : List ℕ → Bool) : Type 0 where
  pub is : IsOutweighed survey group inside
  pub whole : own survey group inside ≡ weight_in survey.observations survey.weights group
  pub none : rest survey group inside ≡ 0

-- A free set that contains a point, where the group's weight less its own cut plus the others' cut is least over all such sets. A mistake that the
-- group shares moves the points of such a set if this value is at most the weight, so if the others' cut is at most the group's.
pub record IsLeastSet (survey : Survey) (group : Observed → Bool) (inside : List ℕ → Bool) : Type 0 where
  pub is : IsFreeWithPoint survey inside
  pub least : (other : List ℕ → Bool) → IsFreeWithPoint survey other → rest survey group inside + own survey group other ≤ rest survey group other + own survey group inside

-- What a mistake that a group shares does, over all free sets that contain a point. It shows if the others outweigh the group in every set. It
-- ties if the group never outweighs the others but weighs the same in some set. If it outweighs them in some set, the mistake drags, but is
-- unchecked if the whole group crosses some set alone.
abbrev pub IsSharedMistake : Survey → (Observed → Bool) → SharedMistake → Type 0
IsSharedMistake survey group Shows = (inside : List ℕ → Bool) → IsFreeWithPoint survey inside → own survey group inside < rest survey group inside
IsSharedMistake survey group Ties =
    ((inside : List ℕ → Bool) → IsFreeWithPoint survey inside → own survey group inside ≤ rest survey group inside) × ((inside : List ℕ → Bool) × IsFreeWithPoint survey inside × (own survey group inside ≡ rest survey group inside))
IsSharedMistake survey group Drags = ((inside : List ℕ → Bool) × IsOutweighed survey group inside) × ((inside : List ℕ → Bool) → ¬ IsAlone survey group inside)
IsSharedMistake survey group Unchecked = (inside : List ℕ → Bool) × IsAlone survey group inside

-- What a mistake that a group with this control and weight shares does: it shows if the control is above the weight, and ties if both are equal.
-- Otherwise it is unchecked if the control is 0, and else drags.
abbrev pub shared_mistake_of : ℕ → ℕ → SharedMistake
shared_mistake_of control weight =
    if nat_lt weight control then Shows
    else (if control == weight then Ties
    else (if control == 0 then Unchecked else Drags))
