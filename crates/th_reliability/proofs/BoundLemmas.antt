-- What the controls of a group's observations tell of a mistake that the group shares.
use Rattle.std.proofs.Common.{◌≡◌, ℕ, suc, ◌+◌, ◌<◌, ◌≤◌, inl, inr, Bool, true, false, List, [], ◌∷◌, get_or, length, sum_by, Option, Some, None, All, Contains, if◌then◌else◌, refl, sym, ap, ◌∙◌, subst, arith}
use Rattle.std.proofs.Math.Path.{fun_ext}
use Rattle.std.proofs.lemmas.Bool.{cases_eq, cases_lt, false≢true, ltb-true}
use Rattle.std.proofs.lemmas.List.{get_or_default}
use Rattle.std.proofs.lemmas.List.Elements.{All-contains, All-from_recursion}
use Rattle.std.proofs.lemmas.List.Sums.{sum_by-cons}
use Rattle.th_observations.specs.Observed.{Observed}
use Rattle.th_tables.specs.Rows.{WeightRows, weight_of}
use Rattle.th_points.specs.Points.{points}
use Rattle.th_points.proofs.PlaceLemmas.{ends_contained}
use Rattle.th_network.specs.Networks.{Survey, points_of}
use Rattle.th_network.specs.Walks.{Anchored, IsTied}
use Rattle.th_network.proofs.WalkLemmas.{untied_inside}
use Rattle.th_reliability.specs.Blunders.{weight_in}
use Rattle.th_reliability.specs.Cuts.{crosses, cut, differ}
use Rattle.th_reliability.specs.Groups.{own_cut, rest_cut}
use Rattle.th_reliability.specs.Numbers.{HasControl}
use Rattle.th_reliability.specs.SharedMistakes.{IsFreeWithPoint, IsSharedMistake, own, rest}
use Rattle.th_reliability.specs.Sights.{in_sights}
use Rattle.th_reliability.specs.declared.sights.Sights.{Sights}
use Rattle.th_reliability.specs.Runs.{HoldsSights}
use Rattle.th_reliability.specs.Inside.Bounds.{AreNoLess, IsNoLess, is_above_twice}
use Rattle.th_reliability.specs.declared.mistakes.SharedMistake.TheVariants.{Shows}
use Rattle.th_reliability.proofs.LevelLemmas.{none_crosses}
use Rattle.th_reliability.proofs.SumLemmas.{sums-le, sums-plus}

-- ---- a cut is the group's and the others'
one_part : (w : ℕ) (b c : Bool) → (if c then w else 0) ≡ (if b then (if c then w else 0) else 0) + (if b then 0 else (if c then w else 0))
one_part w true c = omega arith
one_part w false c = omega arith

pub parts : (observations : List Observed) (weights : WeightRows) (group : Observed → Bool) (inside : List ℕ → Bool) → cut observations weights inside ≡ own_cut observations weights group inside + rest_cut observations weights group inside
parts observations weights group inside =
    let c = λ (o : Observed). if crosses inside o then weight_of weights o.station o.target else 0 in
    ap (λ f. sum_by f observations) (fun_ext (λ o. one_part (weight_of weights o.station o.target) (group o) (crosses inside o))) ∙ sums-plus (λ o. if group o then c o else 0) (λ o. if group o then 0 else c o) observations

-- each observation weighs something
abbrev pub WeighSome : Survey → Type 0
WeighSome survey = All (λ o. 1 ≤ weight_of survey.weights o.station o.target) survey.observations

-- a free set that holds a point of an anchored network cuts something
pub cuts_some : (survey : Survey) (inside : List ℕ → Bool) → WeighSome survey → Anchored survey.observations survey.benchmarks → IsFreeWithPoint survey inside → 0 < cut survey.observations survey.weights inside
cuts_some survey inside are tied is =
    elim (cases_eq (cut survey.observations survey.weights inside) 0) [
      | inl none ↦
          let level = All-from_recursion (λ o. inside o.station ≡ inside o.target) survey.observations (none_crosses survey.weights inside survey.observations are (omega arith)) in
          let point = is.point in
          absurd (untied_inside survey.observations survey.benchmarks inside level is.free point.0 point.2 (All-contains (IsTied survey.observations survey.benchmarks) (points_of survey) point.0 tied point.1))
      | inr some ↦ omega arith
    ]

-- a set that crosses an observation holds a point
pub end_inside : (survey : Survey) (o : Observed) (inside : List ℕ → Bool) → Contains survey.observations o → crosses inside o ≡ true → (name : List ℕ) × Contains (points_of survey) name × (inside name ≡ true)
end_inside survey o inside has crossing = by (inside o.station) refl
  where
    listed : Contains (points_of survey) o.station × Contains (points_of survey) o.target
    listed = All-contains (λ o. Contains (points survey.observations survey.benchmarks) o.station × Contains (points survey.observations survey.benchmarks) o.target) survey.observations o (ends_contained survey.observations survey.benchmarks) has

    by : (b : Bool) → inside o.station ≡ b → (name : List ℕ) × Contains (points_of survey) name × (inside name ≡ true)
    by true e = (o.station, listed.0, e)
    by false e = (o.target, listed.1, ap (λ (s : Bool). differ s (inside o.target)) (sym e) ∙ crossing)

-- ---- each set with a cut of the group's crosses one of its observations
member : (survey : Survey) (group : Observed → Bool) (inside : List ℕ → Bool) (observations : List Observed) → 0 < own_cut observations survey.weights group inside → (o : Observed) × Contains observations o × (group o ≡ true) × (crosses inside o ≡ true)
member survey group inside [] some = absurd (omega arith)
member survey group inside (o ∷ observations) some = by (group o) (crosses inside o) refl refl (λ none. more (member survey group inside observations none))
  where
    w : ℕ
    w = weight_of survey.weights o.station o.target

    more : (x : Observed) × Contains observations x × (group x ≡ true) × (crosses inside x ≡ true) → (x : Observed) × Contains (o ∷ observations) x × (group x ≡ true) × (crosses inside x ≡ true)
    more (x, (k, within, at), is, crossing) = (x, (suc k, omega arith, at), is, crossing)

    none_in : (g : Bool) → (if g then (if false then w else 0) else 0) ≡ 0
    none_in true = refl
    none_in false = refl

    by : (g e : Bool) → group o ≡ g → crosses inside o ≡ e → (0 < own_cut observations survey.weights group inside → (x : Observed) × Contains (o ∷ observations) x × (group x ≡ true) × (crosses inside x ≡ true)) → (x : Observed) × Contains (o ∷ observations) x × (group x ≡ true) × (crosses inside x ≡ true)
    by true true is crossing next = (o, (0, omega arith, refl), is, crossing)
    by true false is level next =
        let first = sum_by-cons (λ (x : Observed). if group x then (if crosses inside x then weight_of survey.weights x.station x.target else 0) else 0) o observations in
        let none : (if group o then (if crosses inside o then w else 0) else 0) ≡ 0 = ap (λ (c : Bool). if group o then (if c then w else 0) else 0) level ∙ none_in (group o) in
        next (omega arith)
    by false e not level next =
        let first = sum_by-cons (λ (x : Observed). if group x then (if crosses inside x then weight_of survey.weights x.station x.target else 0) else 0) o observations in
        let none : (if group o then (if crosses inside o then w else 0) else 0) ≡ 0 = ap (λ (g : Bool). if g then (if crosses inside o then w else 0) else 0) not in
        next (omega arith)

-- a set that cuts some of a group holds a point
pub own_point : (survey : Survey) (group : Observed → Bool) (inside : List ℕ → Bool) → 0 < own survey group inside → (name : List ℕ) × Contains (points_of survey) name × (inside name ≡ true)
own_point survey group inside some = let found = member survey group inside survey.observations some in end_inside survey found.0 inside found.1 found.3

own_part : (w : ℕ) (g e : Bool) → (if g then (if e then w else 0) else 0) ≤ (if g then w else 0)
own_part w true true = omega arith
own_part w true false = omega arith
own_part w false e = omega arith

pub own_most : (survey : Survey) (group : Observed → Bool) (inside : List ℕ → Bool) → own survey group inside ≤ weight_in survey.observations survey.weights group
own_most survey group inside = sums-le (λ o. if group o then (if crosses inside o then weight_of survey.weights o.station o.target else 0) else 0) (λ o. if group o then weight_of survey.weights o.station o.target else 0) (λ o. own_part (weight_of survey.weights o.station o.target) (group o) (crosses inside o)) survey.observations

-- and it cuts as much as that one's control and weight
cuts_least : (survey : Survey) (group : Observed → Bool) (least : Option ℕ) (inside : List ℕ → Bool) → AreNoLess survey group least (length survey.observations) → IsFreeWithPoint survey inside → 0 < own survey group inside → (n : ℕ) × (least ≡ Some n) × (n ≤ cut survey.observations survey.weights inside)
cuts_least survey group least inside all is some =
    let found = member survey group inside survey.observations some in
    let known = All-contains (λ o. group o ≡ true → (control : Option ℕ) × HasControl survey o control × IsNoLess least control (weight_of survey.weights o.station o.target)) survey.observations found.0 all found.1 found.2 in
    by found.0 least known.0 refl known.1 known.2 found.3
  where
    by : (o : Observed) (bound control : Option ℕ) → least ≡ bound → HasControl survey o control → IsNoLess bound control (weight_of survey.weights o.station o.target) → crosses inside o ≡ true → (n : ℕ) × (least ≡ Some n) × (n ≤ cut survey.observations survey.weights inside)
    by o bound None e fixed less crossing =
        let level : crosses inside o ≡ false = ap (λ (s : Bool). differ s (inside o.target)) (is.free o.station fixed.0) ∙ ap (differ false) (is.free o.target fixed.1) in
        absurd (false≢true (sym level ∙ crossing))
    by o None (Some control) e is_control less crossing = absurd less
    by o (Some n) (Some control) e is_control less crossing =
        let most = is_control.least inside is.free crossing in
        (n, e, omega arith)

-- a set without one cuts something
pub cuts_other : (survey : Survey) (group : Observed → Bool) (inside : List ℕ → Bool) → WeighSome survey → Anchored survey.observations survey.benchmarks → IsFreeWithPoint survey inside → own survey group inside ≡ 0 → own survey group inside < rest survey group inside
cuts_other survey group inside are tied is none =
    let some = cuts_some survey inside are tied is in
    let both = parts survey.observations survey.weights group inside in
    omega arith

-- so the mistake shows where that is above twice the weight of the group
pub shows_above : (survey : Survey) (group : Observed → Bool) (least : Option ℕ) → WeighSome survey → Anchored survey.observations survey.benchmarks → AreNoLess survey group least (length survey.observations) → is_above_twice least (weight_in survey.observations survey.weights group) ≡ true → IsSharedMistake survey group Shows
shows_above survey group None are tied all above = λ inside is. elim (cases_eq (own survey group inside) 0) [
  | inl none ↦ cuts_other survey group inside are tied is none
  | inr some ↦ let least = cuts_least survey group None inside all is (omega arith) in cc least.1
]
shows_above survey group (Some n) are tied all above = λ inside is. elim (cases_eq (own survey group inside) 0) [
  | inl none ↦ cuts_other survey group inside are tied is none
  | inr some ↦
      let least = cuts_least survey group (Some n) inside all is (omega arith) in
      let same : n ≡ least.0 = cc least.1 in
      let less = least.2 in
      let most = own_most survey group inside in
      let more = ltb-true (weight_in survey.observations survey.weights group + weight_in survey.observations survey.weights group) n above in
      let both = parts survey.observations survey.weights group inside in
      omega arith
]

-- one more observation, of the group or not
pub more_held : (survey : Survey) (group : Observed → Bool) (least less : Option ℕ) (count : ℕ) (o : Observed) → o ≡ get_or survey.observations count o → count < length survey.observations → AreNoLess survey group least count → ((control : Option ℕ) (weight : ℕ) → IsNoLess least control weight → IsNoLess less control weight) → (group o ≡ true → (control : Option ℕ) × HasControl survey o control × IsNoLess less control (weight_of survey.weights o.station o.target)) → AreNoLess survey group less (count + 1)
more_held survey group least less count o is within before kept here = λ k d small own. elim (cases_eq k count) [
  | inl same ↦
      let at : o ≡ get_or survey.observations k d = is ∙ ap (λ (n : ℕ). get_or survey.observations n o) (sym same) ∙ get_or_default survey.observations k o d (omega arith) in
      subst (λ (x : Observed). group x ≡ true → (control : Option ℕ) × HasControl survey x control × IsNoLess less control (weight_of survey.weights x.station x.target)) at here own
  | inr other ↦
      let known = before k d (omega arith) own in
      (known.0, known.1, kept known.0 (weight_of survey.weights (get_or survey.observations k d).station (get_or survey.observations k d).target) known.2)
]

-- one that is
pub one_held : (survey : Survey) (group : Observed → Bool) (least less control : Option ℕ) (count weight : ℕ) (o : Observed) → o ≡ get_or survey.observations count o → count < length survey.observations → HasControl survey o control → weight ≡ weight_of survey.weights o.station o.target → IsNoLess less control weight → ((other : Option ℕ) (own : ℕ) → IsNoLess least other own → IsNoLess less other own) → AreNoLess survey group least count → AreNoLess survey group less (count + 1)
one_held survey group least less control count weight o is within has weighs here kept before =
    more_held survey group least less count o is within before kept (λ _. (control, has, subst (IsNoLess less control) weighs here))

-- one that is not
pub none_held : (survey : Survey) (group : Observed → Bool) (least : Option ℕ) (count : ℕ) (o : Observed) → o ≡ get_or survey.observations count o → count < length survey.observations → group o ≡ false → AreNoLess survey group least count → AreNoLess survey group least (count + 1)
none_held survey group least count o is within not before = more_held survey group least least count o is within before (λ control weight h. h) (λ own. absurd (false≢true (sym not ∙ own)))

-- the sights are all in their run
pub all_held : (survey : Survey) (sights : Sights) (least : Option ℕ) (run : ℕ × ℕ) (count : ℕ) → HoldsSights survey.observations sights run → run.1 ≤ count → AreNoLess survey (in_sights sights) least count → AreNoLess survey (in_sights sights) least (length survey.observations)
all_held survey sights least run count holds past before = λ k d within own. elim (cases_lt k count) [
  | inl less ↦ before k d less own
  | inr most ↦ absurd (false≢true (sym (holds.above k d (omega arith) within) ∙ own))
]
