-- A group of one observation: what its control tells of heights near it, and of what it moves.
use Rattle.std.proofs.Common.{◌≡◌, ℕ, Bool, true, false, ◌+◌, ◌-◌, ◌*◌, ◌≤◌, ℤ, ◌-ℤ◌, List, if◌then◌else◌, leb, min, unsigned_abs, refl, ap, ◌∙◌, arith}
use Rattle.std.proofs.lemmas.Bool.{leb-false, leb-true}
use Rattle.th_observations.specs.Observed.{Observed}
use Rattle.th_tables.specs.Rows.{weight_of}
use Rattle.th_network.specs.Heights.{IsHeights, Least}
use Rattle.th_network.specs.Networks.{Survey}
use Rattle.th_reliability.specs.Costs.{cost_outside}
use Rattle.th_reliability.specs.Blunders.{weight_in}
use Rattle.th_reliability.specs.Cuts.{IsControl, IsFreeSet, IsStrength, crosses, cut}
use Rattle.th_reliability.specs.Singles.{IsOnly}
use Rattle.th_reliability.specs.Moves.{IsMovable}
use Rattle.th_reliability.specs.SharedMistakes.{IsFreeWithPoint, own, rest}
use Rattle.th_reliability.proofs.BoundLemmas.{end_inside, parts}
use Rattle.th_reliability.proofs.NearLemmas.{HasValue, near_by_value}
use Rattle.th_reliability.proofs.SingleLemmas.{listed, own_is, weight_is}

module _ (survey : Survey) (group : Observed → Bool) (o : Observed) (only : IsOnly survey.observations group o) where
  -- its own cut, where it crosses and where it does not
  own_across : (inside : List ℕ → Bool) → crosses inside o ≡ true → own survey group inside ≡ weight_of survey.weights o.station o.target
  own_across inside crossing = own_is survey group o only inside ∙ ap (λ (b : Bool). if b then weight_of survey.weights o.station o.target else 0) crossing

  own_none : (inside : List ℕ → Bool) → crosses inside o ≡ false → own survey group inside ≡ 0
  own_none inside out = own_is survey group o only inside ∙ ap (λ (b : Bool). if b then weight_of survey.weights o.station o.target else 0) out

  near_value : (control strength : ℕ) (point : List ℕ) → IsControl survey.observations survey.benchmarks survey.weights o control → IsStrength survey.observations survey.benchmarks survey.weights point strength → weight_of survey.weights o.station o.target ≤ control → HasValue survey.observations survey.benchmarks survey.weights group point (min (control - weight_of survey.weights o.station o.target) strength + weight_of survey.weights o.station o.target)
  near_value control strength point is_control is_strength light inside free there = by (crosses inside o) refl
    where
      by : (b : Bool) → crosses inside o ≡ b → ((min (control - weight_of survey.weights o.station o.target) strength + weight_of survey.weights o.station o.target) + own survey group inside) ≤ (rest survey group inside + weight_in survey.observations survey.weights group)
      by true crossing =
          let mine = own_across inside crossing in
          let whole = weight_is survey group o only in
          let least = is_control.least inside free crossing in
          let both = parts survey.observations survey.weights group inside in
          omega arith
      by false out =
          let mine = own_none inside out in
          let whole = weight_is survey group o only in
          let least = is_strength.least inside free there in
          let both = parts survey.observations survey.weights group inside in
          omega arith

  pub one_near : (truth heights : List ℕ → ℤ) (control strength : ℕ) (point : List ℕ) → IsControl survey.observations survey.benchmarks survey.weights o control → IsStrength survey.observations survey.benchmarks survey.weights point strength → IsHeights survey.benchmarks truth → Least survey.observations survey.benchmarks survey.weights heights → unsigned_abs (heights point -ℤ truth point) * min (control - weight_of survey.weights o.station o.target) strength ≤ 2 * cost_outside survey.observations survey.weights group truth
  one_near truth heights control strength point is_control is_strength kept best = by (leb (weight_of survey.weights o.station o.target) control) refl
    where
      by : (b : Bool) → leb (weight_of survey.weights o.station o.target) control ≡ b → unsigned_abs (heights point -ℤ truth point) * min (control - weight_of survey.weights o.station o.target) strength ≤ 2 * cost_outside survey.observations survey.weights group truth
      by true e =
          let light = leb-true (weight_of survey.weights o.station o.target) control e in
          let bound = near_by_value survey.observations survey.benchmarks survey.weights truth heights group (min (control - weight_of survey.weights o.station o.target) strength + weight_of survey.weights o.station o.target) point (near_value control strength point is_control is_strength light) kept best in
          let same : (min (control - weight_of survey.weights o.station o.target) strength + weight_of survey.weights o.station o.target) - weight_in survey.observations survey.weights group ≡ min (control - weight_of survey.weights o.station o.target) strength = let whole = weight_is survey group o only in omega arith in
          let scaled = ap (λ n. unsigned_abs (heights point -ℤ truth point) * n) same in
          omega arith
      by false e =
          let less = leb-false (weight_of survey.weights o.station o.target) control e in
          let none : min (control - weight_of survey.weights o.station o.target) strength ≡ 0 = omega arith in
          let scaled = ap (λ n. unsigned_abs (heights point -ℤ truth point) * n) none in
          omega arith

  -- a set that its control is of is a least set, where the control is at most the weight
  pub one_least : (control : ℕ) (inside : List ℕ → Bool) → IsControl survey.observations survey.benchmarks survey.weights o control → control ≤ weight_of survey.weights o.station o.target → IsFreeSet survey.benchmarks inside → crosses inside o ≡ true → cut survey.observations survey.weights inside ≡ control + weight_of survey.weights o.station o.target → IsMovable survey group inside
  one_least control inside is_control light free crossing reached =
      let mine = own_across inside crossing in
      let both = parts survey.observations survey.weights group inside in
      record { is = record { is = record { free = free; point = end_inside survey o inside (listed survey group o only) crossing }; least = λ other is. by other is (crosses other o) refl }; light = omega arith }
    where
      by : (other : List ℕ → Bool) → IsFreeWithPoint survey other → (b : Bool) → crosses other o ≡ b → (rest survey group inside + own survey group other) ≤ (rest survey group other + own survey group inside)
      by other is true across =
          let mine = own_across inside crossing in
          let both = parts survey.observations survey.weights group inside in
          let its = own_across other across in
          let all = parts survey.observations survey.weights group other in
          let least = is_control.least other is.free across in
          omega arith
      by other is false out =
          let mine = own_across inside crossing in
          let both = parts survey.observations survey.weights group inside in
          let its = own_none other out in
          omega arith
