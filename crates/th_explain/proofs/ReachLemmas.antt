-- The least cost within reach.
use Rattle.std.proofs.Common.{◌≡◌, ℕ, ◌≤◌, ◌⊎◌, inl, inr, ℤ, pos, negsuc, ◌-ℤ◌, ◌≤ℤ◌, ◌<ℤ◌, unsigned_abs, refl, arith}
use Rattle.std.proofs.lemmas.Int.{ints}
use Rattle.th_network.specs.Networks.{Survey}
use Rattle.th_explain.specs.declared.freed.Freed.{Freed}
use Rattle.th_changes.specs.declared.numbers.Number.{Number}
use Rattle.th_changes.specs.declared.slopes.Sloped.{Sloped}
use Rattle.th_explain.specs.Explained.{IsExact, IsLeastInReach}
use Rattle.th_changes.specs.Freed.{Costs, cost_of}
use Rattle.th_changes.specs.Numbers.{changed}
use Rattle.th_changes.specs.Reach.{reach_of}
use Rattle.th_changes.specs.Slopes.{IsSloped}
use Rattle.th_changes.proofs.SlopeLemmas.{costs_of, freed_costs, left_of, left_of_more, right_of, right_of_more}

-- the cost at one change is least among all within reach on whose side it falls
at_left : (survey : Survey) (number : Number) (own : Sloped) → IsSloped survey number own → unsigned_abs own.change ≤ reach_of number survey.observations → own.slope ≤ℤ pos 0
    → ((x : ℤ) → unsigned_abs x ≤ reach_of number survey.observations → x ≤ℤ own.change) → IsLeastInReach survey number own.cost
at_left survey number own sloped near under most = record {
  reached = (own.change, near, sloped.reached);
  least = λ x heights within kept. left_of survey number own.change x own.cost (cost_of (changed number x survey) heights) own.slope sloped under (most x within) (heights, kept, refl);
}

at_right : (survey : Survey) (number : Number) (own : Sloped) → IsSloped survey number own → unsigned_abs own.change ≤ reach_of number survey.observations → pos 0 ≤ℤ own.slope
    → ((x : ℤ) → unsigned_abs x ≤ reach_of number survey.observations → own.change ≤ℤ x) → IsLeastInReach survey number own.cost
at_right survey number own sloped near over least = record {
  reached = (own.change, near, sloped.reached);
  least = λ x heights within kept. right_of survey number own.change x own.cost (cost_of (changed number x survey) heights) own.slope sloped over (least x within) (heights, kept, refl);
}

pub far_above : (survey : Survey) (number : Number) (far : Sloped) → IsSloped survey number far → far.change ≡ pos (reach_of number survey.observations) → far.slope ≤ℤ pos 0 → IsLeastInReach survey number far.cost
far_above survey number far sloped at under = at_left survey number far sloped (omega (arith, ints)) under (λ x near. omega (arith, ints))

pub far_below : (survey : Survey) (number : Number) (far : Sloped) → IsSloped survey number far → far.change ≡ pos 0 -ℤ pos (reach_of number survey.observations) → pos 0 ≤ℤ far.slope → IsLeastInReach survey number far.cost
far_below survey number far sloped at over = at_right survey number far sloped (omega (arith, ints)) over (λ x near. omega (arith, ints))

-- so is the cost as it is, where nothing is within reach, or where it neither falls nor rises
pub given_alone : (survey : Survey) (number : Number) (given : Sloped) → IsSloped survey number given → given.change ≡ pos 0 → reach_of number survey.observations ≡ 0 → IsLeastInReach survey number given.cost
given_alone survey number given sloped at none = by (sign given.slope)
  where
    sign : (s : ℤ) → (s ≤ℤ pos 0) ⊎ (pos 0 ≤ℤ s)
    sign (pos n) = inr (omega (arith, ints))
    sign (negsuc n) = inl (omega (arith, ints))

    by : (given.slope ≤ℤ pos 0) ⊎ (pos 0 ≤ℤ given.slope) → IsLeastInReach survey number given.cost
    by (inl under) = at_left survey number given sloped (omega (arith, ints)) under (λ x near. omega (arith, ints))
    by (inr over) = at_right survey number given sloped (omega (arith, ints)) over (λ x near. omega (arith, ints))

pub given_flat : (survey : Survey) (number : Number) (given : Sloped) → IsSloped survey number given → given.change ≡ pos 0 → given.slope ≡ pos 0 → IsLeastInReach survey number given.cost
given_flat survey number given sloped at flat = record {
  reached = (given.change, omega (arith, ints), sloped.reached);
  least = λ x heights within kept. by x (order x given.change) (heights, kept, refl);
}
  where
    order : (x y : ℤ) → (x ≤ℤ y) ⊎ (y ≤ℤ x)
    order x y = sign (x -ℤ y) refl
      where
        sign : (s : ℤ) → x -ℤ y ≡ s → (x ≤ℤ y) ⊎ (y ≤ℤ x)
        sign (pos n) e = inr (omega (arith, ints))
        sign (negsuc n) e = inl (omega (arith, ints))

    by : (x : ℤ) {total : ℕ} → (x ≤ℤ given.change) ⊎ (given.change ≤ℤ x) → Costs survey number x total → given.cost ≤ total
    by x {total} (inl less) costs = left_of survey number given.change x given.cost total given.slope sloped (omega (arith, ints)) less costs
    by x {total} (inr more) costs = right_of survey number given.change x given.cost total given.slope sloped (omega (arith, ints)) more costs

-- what is left where the least cost is between the survey as it is and the end of the reach
not_below : (x y : ℤ) → ¬ (x <ℤ y) → y ≤ℤ x
not_below x y not = by (x -ℤ y) refl
  where
    by : (d : ℤ) → x -ℤ y ≡ d → y ≤ℤ x
    by (pos n) e = omega (arith, ints)
    by (negsuc n) e = absurd (not (omega (arith, ints)))

between : (survey : Survey) (number : Number) (left right : Sloped) (freed : Freed) → IsSloped survey number left → left.slope <ℤ pos 0 → IsSloped survey number right → pos 0 <ℤ right.slope → IsExact survey number freed → (left.change ≤ℤ freed.low) × (freed.low ≤ℤ right.change)
between survey number left right freed left_sloped falls right_sloped rises exact =
    let costs = costs_of survey number freed.low freed.left exact.left exact.low in (
      not_below freed.low left.change (λ below.
          let more = left_of_more survey number left.change freed.low left.cost freed.left left.slope left_sloped falls below costs in
          let less = freed_costs survey number left.change freed.left left.cost exact.left left_sloped.reached in
          omega arith),
      not_below right.change freed.low (λ above.
          let more = right_of_more survey number right.change freed.low right.cost freed.left right.slope right_sloped rises above costs in
          let less = freed_costs survey number right.change freed.left right.cost exact.left right_sloped.reached in
          omega arith),
    )

pub freed_within : (survey : Survey) (number : Number) (left right : Sloped) (freed : Freed) → IsSloped survey number left → left.slope <ℤ pos 0 → IsSloped survey number right → pos 0 <ℤ right.slope → unsigned_abs left.change ≤ reach_of number survey.observations → unsigned_abs right.change ≤ reach_of number survey.observations → IsExact survey number freed → IsLeastInReach survey number freed.left
freed_within survey number left right freed left_sloped falls right_sloped rises left_near right_near exact =
    let (low, high) = between survey number left right freed left_sloped falls right_sloped rises exact in
    record {
      reached = (freed.low, omega (arith, ints), costs_of survey number freed.low freed.left exact.left exact.low);
      least = λ x heights near kept. exact.left.least x heights kept;
    }

-- so is what is left if the number is freed, where the least change that is proposed is within reach
pub exact_in_reach : (survey : Survey) (number : Number) (freed : Freed) → IsExact survey number freed → unsigned_abs freed.low ≤ reach_of number survey.observations → IsLeastInReach survey number freed.left
exact_in_reach survey number freed exact near = record {
  reached = (freed.low, near, costs_of survey number freed.low freed.left exact.left exact.low);
  least = λ x heights within kept. exact.left.least x heights kept;
}
