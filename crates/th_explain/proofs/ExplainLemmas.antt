-- When a number does not explain what does not fit.
use Rattle.std.proofs.Common.{◌≡◌, ℕ, Option, None, Bool, true, false, ◌<◌, ◌≤◌, ◌⊎◌, ◌&&◌, inl, inr, ℤ, pos, ◌-ℤ◌, ◌≤ℤ◌, ◌<ℤ◌, if◌then◌else◌, int_lt, nat_lt, unsigned_abs, refl, subst, arith}
use Rattle.std.proofs.lemmas.Int.{ints}
use Rattle.std.proofs.lemmas.Bool.{ltb-true, lt-ltb}
use Rattle.th_network.specs.Networks.{Survey}
use Rattle.th_explain.specs.declared.freed.Freed.{Freed}
use Rattle.th_changes.specs.declared.numbers.Number.{Number}
use Rattle.th_changes.specs.declared.slopes.Sloped.{Sloped}
use Rattle.th_explain.specs.Explained.{Explains, IsExact, IsExplainedOrMore, IsNone, mildest}
use Rattle.th_changes.specs.Freed.{Costs, IsProposed}
use Rattle.th_explain.specs.Inside.Brackets.{AreRound, is_explanation}
use Rattle.th_changes.specs.Lines.{IsCostlyBeyond}
use Rattle.th_changes.specs.Reach.{reach_of}
use Rattle.th_changes.specs.Slopes.{IsSloped}
use Rattle.th_explain.proofs.BracketLemmas.{flat_is_freed}
use Rattle.th_changes.proofs.SlopeLemmas.{costs_of, freed_costs, left_of, left_of_more, proposed_of, right_of, right_of_more}

less_is : (x y : ℤ) → int_lt x y ≡ true → x <ℤ y
less_is x y less = grind (arith, ints)

-- a mildest change above a limit: all are above it, or all below its opposite
far_on_a_side : (limit : ℕ) (low high : ℤ) → limit < mildest low high → (pos limit <ℤ low) ⊎ (high <ℤ (pos 0 -ℤ pos limit))
far_on_a_side limit low high far = by (int_lt (pos 0) low) (int_lt high (pos 0)) refl refl far
  where
    by : (up down : Bool) → int_lt (pos 0) low ≡ up → int_lt high (pos 0) ≡ down → limit < (if up then unsigned_abs low else (if down then unsigned_abs high else 0)) → (pos limit <ℤ low) ⊎ (high <ℤ (pos 0 -ℤ pos limit))
    by true down e f more = let above = less_is (pos 0) low e in inl (omega (arith, ints))
    by false true e f more = let below = less_is high (pos 0) f in inr (omega (arith, ints))
    by false false e f more = absurd (omega arith)

-- a change with a cost that is no more than what is left is proposed
proposed_if : (survey : Survey) (number : Number) (own : Sloped) (freed : Freed) → IsExact survey number freed → IsSloped survey number own → own.cost ≤ freed.left → IsProposed survey number own.change
proposed_if survey number own freed exact sloped most =
    let least = freed_costs survey number own.change freed.left own.cost exact.left sloped.reached in
    let same : own.cost ≡ freed.left = omega arith in
    proposed_of survey number own.change freed.left exact.left (subst (Costs survey number own.change) same sloped.reached)

low_costs : (survey : Survey) (number : Number) (freed : Freed) → IsExact survey number freed → Costs survey number freed.low freed.left
low_costs survey number freed exact = costs_of survey number freed.low freed.left exact.left exact.low

high_costs : (survey : Survey) (number : Number) (freed : Freed) → IsExact survey number freed → Costs survey number freed.high freed.left
high_costs survey number freed exact = costs_of survey number freed.high freed.left exact.left exact.high

costs_no_less : (survey : Survey) (number : Number) (cost limit : ℕ) (x : ℤ) (total : ℕ) → IsCostlyBeyond survey number cost limit → limit < unsigned_abs x → Costs survey number x total → cost ≤ total
costs_no_less survey number cost limit x total costly far (heights, kept, same) =
    let least = costly x heights far kept in
    omega arith

pub none_if_flat : (survey : Survey) (limit : ℕ) (number : Number) (given : Sloped) → IsSloped survey number given → given.change ≡ pos 0 → given.slope ≡ pos 0 → IsNone survey limit number
none_if_flat survey limit number given sloped at flat freed explains =
    let is_freed = flat_is_freed survey number given sloped flat in
    let proposed = proposed_of survey number given.change given.cost is_freed sloped.reached in
    let least = explains.exact.least given.change proposed in
    let greatest = explains.exact.greatest given.change proposed in
    elim (far_on_a_side limit freed.low freed.high explains.far) [ inl h ↦ omega (arith, ints) | inr h ↦ omega (arith, ints) ]

pub none_if_far : (survey : Survey) (limit : ℕ) (number : Number) → reach_of number survey.observations ≤ limit → IsNone survey limit number
none_if_far survey limit number far freed explains =
    let low = explains.low_in_reach in
    let high = explains.high_in_reach in
    elim (far_on_a_side limit freed.low freed.high explains.far) [ inl h ↦ omega (arith, ints) | inr h ↦ omega (arith, ints) ]

-- where the cost falls as the number grows
pub none_above : (survey : Survey) (limit : ℕ) (number : Number) (given left : Sloped) → IsSloped survey number given → given.change ≡ pos 0 → given.slope <ℤ pos 0 → IsSloped survey number left → left.change ≡ pos limit → pos 0 ≤ℤ left.slope → IsNone survey limit number
none_above survey limit number given left sloped at falls left_sloped left_at over freed explains =
    elim (far_on_a_side limit freed.low freed.high explains.far) [
      | inl h ↦
          let most = right_of survey number left.change freed.low left.cost freed.left left.slope left_sloped over (omega (arith, ints)) (low_costs survey number freed explains.exact) in
          let least = explains.exact.least left.change (proposed_if survey number left freed explains.exact left_sloped most) in
          omega (arith, ints)
      | inr h ↦
          let more = left_of_more survey number given.change freed.high given.cost freed.left given.slope sloped falls (omega (arith, ints)) (high_costs survey number freed explains.exact) in
          let less = freed_costs survey number given.change freed.left given.cost explains.exact.left sloped.reached in
          omega arith
    ]

pub none_beyond : (survey : Survey) (limit : ℕ) (number : Number) (right : Sloped) → IsSloped survey number right → right.change ≡ pos (reach_of number survey.observations) → right.slope ≤ℤ pos 0 → IsNone survey limit number
none_beyond survey limit number right sloped at under freed explains =
    let high = explains.high_in_reach in
    let most = left_of survey number right.change freed.high right.cost freed.left right.slope sloped under (omega (arith, ints)) (high_costs survey number freed explains.exact) in
    let greatest = explains.exact.greatest right.change (proposed_if survey number right freed explains.exact sloped most) in
    omega (arith, ints)

-- where it rises
pub none_below : (survey : Survey) (limit : ℕ) (number : Number) (given right : Sloped) → IsSloped survey number given → given.change ≡ pos 0 → pos 0 <ℤ given.slope → IsSloped survey number right → right.change ≡ pos 0 -ℤ pos limit → right.slope ≤ℤ pos 0 → IsNone survey limit number
none_below survey limit number given right sloped at rises right_sloped right_at under freed explains =
    elim (far_on_a_side limit freed.low freed.high explains.far) [
      | inl h ↦
          let more = right_of_more survey number given.change freed.low given.cost freed.left given.slope sloped rises (omega (arith, ints)) (low_costs survey number freed explains.exact) in
          let less = freed_costs survey number given.change freed.left given.cost explains.exact.left sloped.reached in
          omega arith
      | inr h ↦
          let most = left_of survey number right.change freed.high right.cost freed.left right.slope right_sloped under (omega (arith, ints)) (high_costs survey number freed explains.exact) in
          let greatest = explains.exact.greatest right.change (proposed_if survey number right freed explains.exact right_sloped most) in
          omega (arith, ints)
    ]

pub none_before : (survey : Survey) (limit : ℕ) (number : Number) (left : Sloped) → IsSloped survey number left → left.change ≡ pos 0 -ℤ pos (reach_of number survey.observations) → pos 0 ≤ℤ left.slope → IsNone survey limit number
none_before survey limit number left sloped at over freed explains =
    let low = explains.low_in_reach in
    let most = right_of survey number left.change freed.low left.cost freed.left left.slope sloped over (omega (arith, ints)) (low_costs survey number freed explains.exact) in
    let least = explains.exact.least left.change (proposed_if survey number left freed explains.exact sloped most) in
    omega (arith, ints)

-- where no change beyond the limit costs less
pub none_if_costly : (survey : Survey) (limit : ℕ) (number : Number) (cost : ℕ) → Costs survey number (pos 0) cost → IsCostlyBeyond survey number cost limit → IsNone survey limit number
none_if_costly survey limit number cost reached costly freed explains =
    let exact = explains.exact in
    let most = freed_costs survey number (pos 0) freed.left cost exact.left reached in
    let least : (y : ℤ) → limit < unsigned_abs y → Costs survey number y freed.left → IsProposed survey number (pos 0) =
    λ y far costs.
    let same : cost ≡ freed.left = let less = costs_no_less survey number cost limit y freed.left costly far costs in omega arith in
    proposed_of survey number (pos 0) freed.left exact.left (subst (Costs survey number (pos 0)) same reached) in
    elim (far_on_a_side limit freed.low freed.high explains.far) [
      | inl h ↦ let bound = exact.least (pos 0) (least freed.low (omega (arith, ints)) (low_costs survey number freed exact)) in omega (arith, ints)
      | inr h ↦ let bound = exact.greatest (pos 0) (least freed.high (omega (arith, ints)) (high_costs survey number freed exact)) in omega (arith, ints)
    ]

-- ---- both changes
pub round_of : (survey : Survey) (number : Number) (left right : Sloped) → IsSloped survey number left → IsSloped survey number right → unsigned_abs left.change ≤ reach_of number survey.observations → unsigned_abs right.change ≤ reach_of number survey.observations → left.slope <ℤ pos 0 → pos 0 <ℤ right.slope → left.change <ℤ right.change → AreRound survey number left right
round_of survey number left right left_sloped right_sloped left_near right_near falls rises order = record {
  at_left = record { sloped = left_sloped; near = left_near };
  at_right = record { sloped = right_sloped; near = right_near };
  falls = falls;
  rises = rises;
  order = order;
}

-- ---- the test at the end
both_true : (a b : Bool) → (a && b) ≡ true → (a ≡ true) × (b ≡ true)
both_true true true e = (refl, refl)
both_true true false e = cc
both_true false b e = cc

pub explains_if : (survey : Survey) (limit : ℕ) (number : Number) (freed : Freed) → IsExact survey number freed → is_explanation limit (reach_of number survey.observations) freed ≡ true → Explains survey limit number freed
explains_if survey limit number freed exact passes =
    let first = both_true (nat_lt limit (mildest freed.low freed.high)) (nat_lt (unsigned_abs freed.low) (reach_of number survey.observations) && nat_lt (unsigned_abs freed.high) (reach_of number survey.observations)) passes in
    let second = both_true (nat_lt (unsigned_abs freed.low) (reach_of number survey.observations)) (nat_lt (unsigned_abs freed.high) (reach_of number survey.observations)) first.1 in
    record {
      exact = exact;
      far = ltb-true limit (mildest freed.low freed.high) first.0;
      low_in_reach = ltb-true (unsigned_abs freed.low) (reach_of number survey.observations) second.0;
      high_in_reach = ltb-true (unsigned_abs freed.high) (reach_of number survey.observations) second.1;
    }

all_true : (a b c : Bool) → a ≡ true → b ≡ true → c ≡ true → (a && (b && c)) ≡ true
all_true a b c x y z = cc

same_end : (x y : ℤ) → x ≤ℤ y → y ≤ℤ x → x ≡ y
same_end x y a b = omega (arith, ints)

pub none_if : (survey : Survey) (limit : ℕ) (number : Number) (freed : Freed) → IsExact survey number freed → is_explanation limit (reach_of number survey.observations) freed ≡ false → IsNone survey limit number
none_if survey limit number freed exact fails other explains =
    let low = same_end other.low freed.low (explains.exact.least freed.low exact.low) (exact.least other.low explains.exact.low) in
    let high = same_end other.high freed.high (exact.greatest other.high explains.exact.high) (explains.exact.greatest freed.high exact.high) in
    let far = subst (λ (x : ℤ). limit < mildest x freed.high) low (subst (λ (y : ℤ). limit < mildest other.low y) high explains.far) in
    let near_low = subst (λ (x : ℤ). unsigned_abs x < reach_of number survey.observations) low explains.low_in_reach in
    let near_high = subst (λ (x : ℤ). unsigned_abs x < reach_of number survey.observations) high explains.high_in_reach in
    let passes = all_true _ _ _ (lt-ltb limit (mildest freed.low freed.high) far) (lt-ltb (unsigned_abs freed.low) (reach_of number survey.observations) near_low) (lt-ltb (unsigned_abs freed.high) (reach_of number survey.observations) near_high) in
    clash passes fails
  where
    clash : {b : Bool} → b ≡ true → b ≡ false → ⊥
    clash here none = cc

-- ---- numbers that leave more
pub or_more : (survey : Survey) (limit : ℕ) (least : Option ℕ) (number : Number) → IsNone survey limit number → IsExplainedOrMore survey limit least number None
or_more survey limit least number none freed explains = absurd (none freed explains)
