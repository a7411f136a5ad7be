-- How flows show what is left if one number may have any value.
use Rattle.std.specs.Prelude.{◌≡◌, ℕ, ℤ, pos, ◌*ℤ◌, List, zip}
use Rattle.th_network.specs.Circulation.{Circulation, Shows, total_by}
use Rattle.th_network.specs.Links.{link_difference}
use Rattle.th_network.specs.Networks.{Survey}
use Rattle.th_changes.specs.declared.numbers.Number.{Number}
use Rattle.th_changes.specs.Freed.{Keeps}
use Rattle.th_changes.specs.Numbers.{changed, touch}

-- the flows are a circulation of the survey
abbrev pub Circulates : Survey → List ℤ → Type 0
Circulates survey flows = Circulation survey.observations survey.benchmarks survey.weights flows

-- the sum of the flows times the differences without the benchmarks' heights
abbrev pub value : Survey → List ℤ → ℤ
value survey flows = total_by (λ pair. pair.1 *ℤ link_difference survey.benchmarks pair.0) (zip survey.observations flows)

-- how much the value grows for each unit that the number grows: what flows through the observations that the number touches
abbrev pub net : Number → Survey → List ℤ → ℤ
net number survey flows = total_by (λ pair. pair.1 *ℤ touch number pair.0) (zip survey.observations flows)

-- A certificate: a change of the number, heights, and flows. The heights keep the benchmarks of the changed survey,
-- the flows circulate without net through the number, and they show the heights in the changed survey.
pub record ShowsFreed (survey : Survey) (number : Number) (x : ℤ) (heights : List ℕ → ℤ) (flows : List ℤ) : Type 0 where
  pub kept : Keeps (changed number x survey) heights
  pub circulation : Circulates survey flows
  pub no_net : net number survey flows ≡ pos 0
  pub shown : Shows (changed number x survey).observations survey.weights flows heights
