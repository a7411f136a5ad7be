-- Complementary slackness: what a circulation shows costs least.
use Rattle.std.proofs.Common.{◌≡◌, ℕ, Bool, true, false, ◌*◌, ◌≤◌, ℤ, pos, ◌+ℤ◌, ◌-ℤ◌, ◌*ℤ◌, ◌≤ℤ◌, inl, inr, List, [], ◌∷◌, Option, Some, None, unsigned_abs, refl, ap, ◌∙◌, sym, arith}
use Rattle.std.proofs.lemmas.Int.{ints}
use Rattle.std.proofs.lemmas.List.Sums.{sum_by-cons}
use Rattle.std.proofs.lemmas.List.Elements.{recursion_from_All}
use Rattle.std.specs.List.{AllZip, AllByRecursion}
use Rattle.th_observations.specs.Observed.{Observed}
use Rattle.th_tables.specs.Rows.{BenchmarkRows, WeightRows, height_of, weight_of}
use Rattle.th_points.specs.Points.{points}
use Rattle.th_network.specs.Heights.{IsHeights, residual, cost, IsFineHeights, fine_cost, LeastFine}
use Rattle.th_network.specs.Circulation.{Circulation, Shows, arriving, leaving}
use Rattle.th_network.proofs.Products.{times-plus, times-minus, times_swap, times-le}
use Rattle.th_network.proofs.Balance.{carried, InBalance, ZeroUnlessIn, weaker, nothing_carried}
use Rattle.th_points.proofs.PointLemmas.{EndsAmong, ends_are_points}

-- how far other heights, in a unit k times finer, are above the heights at a point
abbrev rise : ℕ → (List ℕ → ℤ) → (List ℕ → ℤ) → List ℕ → ℤ
rise k heights fine name = fine name -ℤ pos k *ℤ heights name

-- one observation: r is its residual, s the one in the finer unit, v how much more the other heights rise along it
one_costs : (k w : ℕ) (flow r s v : ℤ) → unsigned_abs flow ≤ w → flow *ℤ r ≡ pos (w * unsigned_abs r) → pos k *ℤ r ≡ s +ℤ v → pos (k * (w * unsigned_abs r)) ≤ℤ (pos (w * unsigned_abs s) +ℤ flow *ℤ v)
one_costs k w flow r s v bound slack same =
    let a : pos (k * (w * unsigned_abs r)) ≡ pos k *ℤ (flow *ℤ r) = ap (λ z. pos k *ℤ z) (sym slack) in
    let b = times_swap (pos k) flow r in
    let c : flow *ℤ (pos k *ℤ r) ≡ flow *ℤ s +ℤ flow *ℤ v = ap (λ z. flow *ℤ z) same ∙ times-plus flow s v in
    let d = times-le flow s w bound in
    omega (arith, ints)

-- the residual in the finer unit, by the heights and by the others
residual_rise : (k : ℕ) (d ht hs gt gs : ℤ) → pos k *ℤ (d -ℤ (ht -ℤ hs)) ≡ pos k *ℤ d -ℤ (gt -ℤ gs) +ℤ ((gt -ℤ pos k *ℤ ht) -ℤ (gs -ℤ pos k *ℤ hs))
residual_rise k d ht hs gt gs =
    let a = times-minus (pos k) d (ht -ℤ hs) in
    let b = times-minus (pos k) ht hs in
    omega (arith, ints)

costs_most : (k : ℕ) (weights : WeightRows) (heights fine : List ℕ → ℤ) (observations : List Observed) (flows : List ℤ) → AllZip (λ o flow. unsigned_abs flow ≤ weight_of weights o.station o.target) observations flows → Shows observations weights flows heights → pos (k * cost observations weights heights) ≤ℤ (pos (fine_cost k observations weights fine) +ℤ carried (rise k heights fine) observations flows)
costs_most k weights heights fine [] [] bounded shown = omega (arith, ints)
costs_most k weights heights fine [] (flow ∷ flows) bounded shown = absurd bounded
costs_most k weights heights fine (o ∷ observations) [] bounded shown = absurd bounded
costs_most k weights heights fine (o ∷ observations) (flow ∷ flows) bounded shown =
    let w = weight_of weights o.station o.target in
    let s = pos k *ℤ o.difference -ℤ (fine o.target -ℤ fine o.station) in
    let v = rise k heights fine o.target -ℤ rise k heights fine o.station in
    let same = residual_rise k o.difference (heights o.target) (heights o.station) (fine o.target) (fine o.station) in
    let one = one_costs k w flow (residual o heights) s v bounded.0 shown.0 same in
    let rest = costs_most k weights heights fine observations flows bounded.1 shown.1 in
    let p = sum_by-cons (λ o. weight_of weights o.station o.target * unsigned_abs (residual o heights)) o observations in
    let q = sum_by-cons (λ o. weight_of weights o.station o.target * unsigned_abs (pos k *ℤ o.difference -ℤ (fine o.target -ℤ fine o.station))) o observations in
    let p' = ap (λ n. k * n) p in
    omega (arith, ints)

-- where a benchmark keeps its height, nothing rises; elsewhere the flows are in balance
in_balance : (k : ℕ) (observations : List Observed) (benchmarks : BenchmarkRows) (flows : List ℤ) (heights fine : List ℕ → ℤ) → IsHeights benchmarks heights → IsFineHeights k benchmarks fine → (name : List ℕ) → (height_of benchmarks name ≡ None → arriving observations flows name ≡ leaving observations flows name) → InBalance (rise k heights fine) observations flows name
in_balance k observations benchmarks flows heights fine kept fine_kept name balanced = by (height_of benchmarks name) refl
  where
    by : (found : Option ℤ) → height_of benchmarks name ≡ found → InBalance (rise k heights fine) observations flows name
    by None e = inr (balanced e)
    by (Some height) e =
        let h = ap (λ z. pos k *ℤ z) (kept name height e) in
        let g = fine_kept name height e in
        inl (omega (arith, ints))

ends_zero : (k : ℕ) (observations : List Observed) (benchmarks : BenchmarkRows) (u : List ℕ → ℤ) → AllByRecursion (λ o. ZeroUnlessIn (points observations benchmarks) u o.station × ZeroUnlessIn (points observations benchmarks) u o.target) observations
ends_zero k observations benchmarks u = weaker (EndsAmong (points observations benchmarks)) (λ o. ZeroUnlessIn (points observations benchmarks) u o.station × ZeroUnlessIn (points observations benchmarks) u o.target) (λ o h. ((λ absent. clash h.0 absent), (λ absent. clash h.1 absent))) observations (ends_are_points observations benchmarks)
  where
    clash : {P : Type 0} {b : Bool} → b ≡ true → b ≡ false → P
    clash present absent = absurd (grind arith)

-- the law: a balanced and bounded flow that keeps complementary slackness shows that the heights cost least
pub slackness : (observations : List Observed) (benchmarks : BenchmarkRows) (weights : WeightRows) (heights : List ℕ → ℤ) (flows : List ℤ) → IsHeights benchmarks heights → Circulation observations benchmarks weights flows → Shows observations weights flows heights → LeastFine observations benchmarks weights heights
slackness observations benchmarks weights heights flows kept circulation shown = record {
  kept = kept;
  least = λ k fine positive fine_kept.
      let names = points observations benchmarks in
      let balanced = recursion_from_All (λ name. height_of benchmarks name ≡ None → arriving observations flows name ≡ leaving observations flows name) names circulation.balanced in
      let none = nothing_carried names (rise k heights fine) observations flows (weaker (λ name. height_of benchmarks name ≡ None → arriving observations flows name ≡ leaving observations flows name) (InBalance (rise k heights fine) observations flows) (in_balance k observations benchmarks flows heights fine kept fine_kept) names balanced) (ends_zero k observations benchmarks (rise k heights fine)) in
      let most = costs_most k weights heights fine observations flows circulation.bounded shown in
      omega (arith, ints);
}
