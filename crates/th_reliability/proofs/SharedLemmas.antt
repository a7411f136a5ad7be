-- What a mistake that a group shares does, by the least value of the others' cut less its own.
use Rattle.std.proofs.Common.{◌≡◌, ℕ, ◌+◌, ◌≤◌, Bool, true, false, List, ◌⊎◌, inl, inr, eqb, ltb, if◌then◌else◌, refl, subst, sym, arith}
use Rattle.std.proofs.lemmas.Bool.{eqb-false, eqb-true, ltb-false, ltb-true}
use Rattle.th_observations.specs.Observed.{Observed}
use Rattle.th_network.specs.Networks.{Survey}
use Rattle.th_reliability.specs.Blunders.{weight_in}
use Rattle.th_reliability.specs.Groups.{IsGroupControl}
use Rattle.th_reliability.specs.SharedMistakes.{IsFreeWithPoint, IsOutweighed, IsSharedMistake, own, rest, shared_mistake_of}
use Rattle.th_reliability.specs.declared.mistakes.SharedMistake.{SharedMistake}
use Rattle.th_reliability.specs.declared.mistakes.SharedMistake.TheVariants.{Drags, Shows, Ties, Unchecked}
use Rattle.th_reliability.proofs.BoundLemmas.{own_most}

-- ---- what a least value decides
pub decided : (survey : Survey) (group : Observed → Bool) (value weight : ℕ) → weight ≡ weight_in survey.observations survey.weights group → ((inside : List ℕ → Bool) → IsFreeWithPoint survey inside → (value + own survey group inside) ≤ (rest survey group inside + weight_in survey.observations survey.weights group)) → (value ≤ weight → (inside : List ℕ → Bool) × IsFreeWithPoint survey inside × ((value + own survey group inside) ≡ (rest survey group inside + weight_in survey.observations survey.weights group))) → IsSharedMistake survey group (shared_mistake_of value weight)
decided survey group value weight is bound reached = by (ltb weight value) (eqb value weight) (eqb value 0) refl refl refl
  where
    by : (more same none : Bool) → ltb weight value ≡ more → eqb value weight ≡ same → eqb value 0 ≡ none → IsSharedMistake survey group (if more then Shows else (if same then Ties else (if none then Unchecked else Drags)))
    by true same none e f g = λ inside kind. let less = bound inside kind in let more = ltb-true weight value e in omega arith
    by false true none e f g =
        let equal = eqb-true value weight f in
        let there = reached (omega arith) in
        let weighs = there.2 in
        ((λ inside kind. let less = bound inside kind in omega arith), (there.0, there.1, omega arith))
    by false false true e f g =
        let differs = eqb-false value weight f in
        let least = ltb-false weight value e in
        let zero = eqb-true value 0 g in
        let there = reached (omega arith) in
        let weighs = there.2 in
        let part = own_most survey group there.0 in
        (there.0, record { is = record { is = there.1; less = omega arith }; whole = omega arith; none = omega arith })
    by false false false e f g =
        let differs = eqb-false value weight f in
        let least = ltb-false weight value e in
        let some = eqb-false value 0 g in
        let there = reached (omega arith) in
        let weighs = there.2 in
        ((there.0, record { is = there.1; less = omega arith }), λ inside alone. let less = bound inside alone.is.is in let whole = alone.whole in let none = alone.none in absurd (omega arith))

-- ---- the control decides what a shared mistake does, and it does one thing
pub decided_by_control : (survey : Survey) (group : Observed → Bool) (control : ℕ) → IsGroupControl survey.observations survey.benchmarks survey.weights group control → IsSharedMistake survey group (shared_mistake_of control (weight_in survey.observations survey.weights group))
decided_by_control survey group control h =
    decided survey group control (weight_in survey.observations survey.weights group) refl
    (λ inside is. h.least inside is.point.0 is.free is.point.1 is.point.2)
    (λ small. (h.reached.0, record { free = h.reached.1; point = h.reached.2 }, sym h.reached.3))

-- where it drags or nothing checks it, the group outweighs the others in some set
pub outweighs : (survey : Survey) (group : Observed → Bool) (mistake : SharedMistake) → IsSharedMistake survey group mistake → (mistake ≡ Drags) ⊎ (mistake ≡ Unchecked) → (inside : List ℕ → Bool) × IsOutweighed survey group inside
outweighs survey group mistake is (inl drags) = (subst (IsSharedMistake survey group) drags is).0
outweighs survey group mistake is (inr unchecked) = let alone = subst (IsSharedMistake survey group) unchecked is in (alone.0, alone.1.is)

shown_outweighed : (survey : Survey) (group : Observed → Bool) (inside : List ℕ → Bool) → IsSharedMistake survey group Shows → IsOutweighed survey group inside → ⊥
shown_outweighed survey group inside shown is = let less = shown inside is.is in let more = is.less in absurd (omega arith)

tied_outweighed : (survey : Survey) (group : Observed → Bool) (inside : List ℕ → Bool) → IsSharedMistake survey group Ties → IsOutweighed survey group inside → ⊥
tied_outweighed survey group inside tied is = let less = tied.0 inside is.is in let more = is.less in absurd (omega arith)

pub one_mistake : (survey : Survey) (group : Observed → Bool) (first second : SharedMistake) → IsSharedMistake survey group first → IsSharedMistake survey group second → first ≡ second
one_mistake survey group Shows Shows a b = refl
one_mistake survey group Shows Ties a b = let less = a b.1.0 b.1.1 in let same = b.1.2 in absurd (omega arith)
one_mistake survey group Shows Drags a b = absurd (shown_outweighed survey group b.0.0 a b.0.1)
one_mistake survey group Shows Unchecked a b = absurd (shown_outweighed survey group b.0 a b.1.is)
one_mistake survey group Ties Shows a b = let less = b a.1.0 a.1.1 in let same = a.1.2 in absurd (omega arith)
one_mistake survey group Ties Ties a b = refl
one_mistake survey group Ties Drags a b = absurd (tied_outweighed survey group b.0.0 a b.0.1)
one_mistake survey group Ties Unchecked a b = absurd (tied_outweighed survey group b.0 a b.1.is)
one_mistake survey group Drags Shows a b = absurd (shown_outweighed survey group a.0.0 b a.0.1)
one_mistake survey group Drags Ties a b = absurd (tied_outweighed survey group a.0.0 b a.0.1)
one_mistake survey group Drags Drags a b = refl
one_mistake survey group Drags Unchecked a b = absurd (a.1 b.0 b.1)
one_mistake survey group Unchecked Shows a b = absurd (shown_outweighed survey group a.0 b a.1.is)
one_mistake survey group Unchecked Ties a b = absurd (tied_outweighed survey group a.0 b a.1.is)
one_mistake survey group Unchecked Drags a b = absurd (b.1 a.0 a.1)
one_mistake survey group Unchecked Unchecked a b = refl

pub shown_without_points : (survey : Survey) (group : Observed → Bool) → ((inside : List ℕ → Bool) → IsFreeWithPoint survey inside → ⊥) → IsSharedMistake survey group Shows
shown_without_points survey group none = λ inside is. absurd (none inside is)
