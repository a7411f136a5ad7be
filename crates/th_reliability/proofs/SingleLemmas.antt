-- A group of one observation: its control decides what a mistake in it does.
use Rattle.std.proofs.Common.{◌≡◌, ◌≢◌, ℕ, zero, suc, ◌<◌, ◌≤◌, Bool, true, false, List, [], ◌∷◌, get_or, length, Option, Some, None, Contains, eqb, ltb, if◌then◌else◌, sum_by, refl, ap, ◌∙◌, arith}
use Rattle.std.proofs.lemmas.Bool.{eqb-false, eqb-true, ltb-false, ltb-true}
use Rattle.std.proofs.lemmas.List.Sums.{sum_by-cons, sum_by-le}
use Rattle.std.proofs.lemmas.Option.{get_or_from_slice_get, slice_get_within}
use Rattle.th_observations.specs.Observed.{Observed}
use Rattle.th_tables.specs.Rows.{AreWeights, weight_of}
use Rattle.th_network.specs.Networks.{Survey}
use Rattle.th_network.specs.Walks.{Anchored}
use Rattle.th_reliability.specs.Cuts.{IsControl, crosses, differ}
use Rattle.th_reliability.specs.Singles.{IsOnly, single_mistake_of}
use Rattle.th_reliability.specs.Numbers.{HasControl}
use Rattle.th_reliability.specs.SharedMistakes.{IsAlone, IsFreeWithPoint, IsOutweighed, IsSharedMistake, own, rest}
use Rattle.th_reliability.specs.declared.mistakes.SharedMistake.TheVariants.{Drags, Shows, Ties, Unchecked}
use Rattle.th_reliability.specs.Blunders.{weight_in}
use Rattle.th_reliability.proofs.BoundLemmas.{cuts_some, end_inside, parts}
use Rattle.th_tables.proofs.WeightLemmas.{heavy}

-- a sum with one term that is not 0 is that term
pub one_term : {X : Type 0} (f : X → ℕ) (xs : List X) (k : ℕ) (d : X) → k < length xs → ((j : ℕ) (d : X) → j ≢ k → j < length xs → f (get_or xs j d) ≡ 0) → sum_by f xs ≡ f (get_or xs k d)
one_term f [] k d within others = absurd (omega arith)
one_term f (x ∷ xs) zero d within others =
    let all = sum_by-cons f x xs in
    let none = sum_by-le f 0 xs (λ j e less. let nothing = others (suc j) e (omega arith) (omega arith) in omega arith) in
    omega arith
one_term f (x ∷ xs) (suc k) d within others =
    let all = sum_by-cons f x xs in
    let first = others zero d (omega arith) (omega arith) in
    let rest = one_term f xs k d (omega arith) (λ j e differs less. others (suc j) e (omega arith) (omega arith)) in
    omega arith

module _ (survey : Survey) (group : Observed → Bool) (o : Observed) (only : IsOnly survey.observations group o) where
  -- it is one of the observations
  abbrev pub listed : Contains survey.observations o
  listed = (only.place, slice_get_within survey.observations only.place o only.at, get_or_from_slice_get survey.observations only.place o o only.at)

  -- the group's own cut is the weight of the observation where it crosses, and else nothing
  pub own_is : (inside : List ℕ → Bool) → own survey group inside ≡ (if crosses inside o then weight_of survey.weights o.station o.target else 0)
  own_is inside =
      let term = λ (x : Observed). if group x then (if crosses inside x then weight_of survey.weights x.station x.target else 0) else 0 in
      let sum : own survey group inside ≡ term (get_or survey.observations only.place o) = one_term term survey.observations only.place o listed.1 (λ j d differs less. ap (λ (b : Bool). if b then (if crosses inside (get_or survey.observations j d) then weight_of survey.weights (get_or survey.observations j d).station (get_or survey.observations j d).target else 0) else 0) (only.others j d differs less)) in
      sum ∙ ap term listed.2 ∙ ap (λ (b : Bool). if b then (if crosses inside o then weight_of survey.weights o.station o.target else 0) else 0) only.is

  -- where it crosses, the others weigh no less than its control
  crossed : (inside : List ℕ → Bool) (control : ℕ) → IsControl survey.observations survey.benchmarks survey.weights o control → IsFreeWithPoint survey inside → crosses inside o ≡ true → (own survey group inside ≡ weight_of survey.weights o.station o.target) × (control ≤ rest survey group inside)
  crossed inside control is_control is crossing =
      let mine : own survey group inside ≡ weight_of survey.weights o.station o.target = own_is inside ∙ ap (λ (b : Bool). if b then weight_of survey.weights o.station o.target else 0) crossing in
      let least = is_control.least inside is.free crossing in
      let both = parts survey.observations survey.weights group inside in
      (mine, omega arith)

  -- where it does not, they weigh something
  uncrossed : (inside : List ℕ → Bool) → AreWeights survey.weights → Anchored survey.observations survey.benchmarks → IsFreeWithPoint survey inside → crosses inside o ≡ false → own survey group inside < rest survey group inside
  uncrossed inside are tied is level =
      let mine : own survey group inside ≡ 0 = own_is inside ∙ ap (λ (b : Bool). if b then weight_of survey.weights o.station o.target else 0) level in
      let some = cuts_some survey inside (λ k d within. heavy survey.weights are (get_or survey.observations k d).station (get_or survey.observations k d).target) tied is in
      let both = parts survey.observations survey.weights group inside in
      omega arith

  -- the set that the control is of
  reached : (control : ℕ) → IsControl survey.observations survey.benchmarks survey.weights o control → (inside : List ℕ → Bool) × IsFreeWithPoint survey inside × (own survey group inside ≡ weight_of survey.weights o.station o.target) × (rest survey group inside ≡ control)
  reached control is_control =
      let inside = is_control.reached.0 in
      let crossing = is_control.reached.2 in
      let mine : own survey group inside ≡ weight_of survey.weights o.station o.target = own_is inside ∙ ap (λ (b : Bool). if b then weight_of survey.weights o.station o.target else 0) crossing in
      let all = is_control.reached.3 in
      let both = parts survey.observations survey.weights group inside in
      (inside, record { free = is_control.reached.1; point = end_inside survey o inside listed crossing }, mine, omega arith)

  -- the group's weight is that of the observation
  pub weight_is : weight_in survey.observations survey.weights group ≡ weight_of survey.weights o.station o.target
  weight_is =
      let term = λ (x : Observed). if group x then weight_of survey.weights x.station x.target else 0 in
      let sum : weight_in survey.observations survey.weights group ≡ term (get_or survey.observations only.place o) = one_term term survey.observations only.place o listed.1 (λ j d differs less. ap (λ (b : Bool). if b then weight_of survey.weights (get_or survey.observations j d).station (get_or survey.observations j d).target else 0) (only.others j d differs less)) in
      sum ∙ ap term listed.2 ∙ ap (λ (b : Bool). if b then weight_of survey.weights o.station o.target else 0) only.is

  by_control : (control : ℕ) → AreWeights survey.weights → Anchored survey.observations survey.benchmarks → IsControl survey.observations survey.benchmarks survey.weights o control → (more same none : Bool) → ltb (weight_of survey.weights o.station o.target) control ≡ more → eqb control (weight_of survey.weights o.station o.target) ≡ same → eqb control 0 ≡ none → IsSharedMistake survey group (if more then Shows else (if same then Ties else (if none then Unchecked else Drags)))
  by_control control are tied is_control true same none e f g = λ inside is. by inside is (crosses inside o) refl
    where
      by : (inside : List ℕ → Bool) → IsFreeWithPoint survey inside → (b : Bool) → crosses inside o ≡ b → own survey group inside < rest survey group inside
      by inside is true crossing =
          let both = crossed inside control is_control is crossing in
          let mine = both.0 in
          let others = both.1 in
          let more = ltb-true (weight_of survey.weights o.station o.target) control e in
          omega arith
      by inside is false level = uncrossed inside are tied is level
  by_control control are tied is_control false true none e f g =
      let there = reached control is_control in
      let mine = there.2 in
      let others = there.3 in
      let equal = eqb-true control (weight_of survey.weights o.station o.target) f in
      ((λ inside is. by inside is (crosses inside o) refl), (there.0, there.1, omega arith))
    where
      by : (inside : List ℕ → Bool) → IsFreeWithPoint survey inside → (b : Bool) → crosses inside o ≡ b → own survey group inside ≤ rest survey group inside
      by inside is true crossing =
          let both = crossed inside control is_control is crossing in
          let mine = both.0 in
          let others = both.1 in
          let equal = eqb-true control (weight_of survey.weights o.station o.target) f in
          omega arith
      by inside is false level = let less = uncrossed inside are tied is level in omega arith
  by_control control are tied is_control false false none e f g = by none g
    where
      there : (inside : List ℕ → Bool) × IsFreeWithPoint survey inside × (own survey group inside ≡ weight_of survey.weights o.station o.target) × (rest survey group inside ≡ control)
      there = reached control is_control

      heavy : IsOutweighed survey group there.0
      heavy =
          let mine = there.2 in
          let others = there.3 in
          let differs = eqb-false control (weight_of survey.weights o.station o.target) f in
          let least = ltb-false (weight_of survey.weights o.station o.target) control e in
          record { is = there.1; less = omega arith }

      checked : (inside : List ℕ → Bool) → eqb control 0 ≡ false → IsAlone survey group inside → (b : Bool) → crosses inside o ≡ b → ⊥
      checked inside some alone true crossing =
          let both = crossed inside control is_control alone.is.is crossing in
          let others = both.1 in
          let none = alone.none in
          let differs = eqb-false control 0 some in
          absurd (omega arith)
      checked inside some alone false level =
          let less = uncrossed inside are tied alone.is.is level in
          let more = alone.is.less in
          absurd (omega arith)

      by : (none : Bool) → eqb control 0 ≡ none → IsSharedMistake survey group (if none then Unchecked else Drags)
      by true unchecked =
          let mine = there.2 in
          let others = there.3 in
          let whole = weight_is in
          let equal = eqb-true control 0 unchecked in
          (there.0, record { is = heavy; whole = omega arith; none = omega arith })
      by false some = ((there.0, heavy), λ inside alone. checked inside some alone (crosses inside o) refl)

pub single : (survey : Survey) (group : Observed → Bool) (o : Observed) (control : Option ℕ) → AreWeights survey.weights → Anchored survey.observations survey.benchmarks → IsOnly survey.observations group o → HasControl survey o control → IsSharedMistake survey group (single_mistake_of control (weight_of survey.weights o.station o.target))
single survey group o None are tied only fixed = λ inside is.
    let station = is.free o.station fixed.0 in
    let target = is.free o.target fixed.1 in
    uncrossed survey group o only inside are tied is (ap (λ (s : Bool). differ s (inside o.target)) station ∙ ap (differ false) target)
single survey group o (Some control) are tied only is_control =
    by_control survey group o only control are tied is_control (ltb (weight_of survey.weights o.station o.target) control) (eqb control (weight_of survey.weights o.station o.target)) (eqb control 0) refl refl refl
