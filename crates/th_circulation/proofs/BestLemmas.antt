-- Which heights are best: those that a circulation shows, where it shows any.
use Rattle.std.proofs.Common.{◌≡◌, ℕ, Bool, true, false, ◌*◌, ◌≤◌, ℤ, pos, ◌+ℤ◌, ◌-ℤ◌, ◌*ℤ◌, ◌≤ℤ◌, inl, inr, List, [], ◌∷◌, Option, Some, None, unsigned_abs, refl, ap, ◌∙◌, arith}
use Rattle.std.proofs.lemmas.Int.{ints}
use Rattle.std.proofs.lemmas.List.Sums.{sum_by-cons}
use Rattle.std.proofs.lemmas.List.Elements.{recursion_from_All}
use Rattle.std.specs.List.{AllZip, AllByRecursion}
use Rattle.th_observations.specs.Observed.{Observed}
use Rattle.th_tables.specs.Rows.{BenchmarkRows, WeightRows, height_of, weight_of}
use Rattle.th_points.specs.Points.{points}
use Rattle.th_network.specs.Heights.{IsHeights, residual, cost, Least}
use Rattle.th_network.specs.Circulation.{Circulation, Shows, arriving, leaving}
use Rattle.th_network.proofs.Products.{times-plus, times-le}
use Rattle.th_network.proofs.Balance.{carried, InBalance, ZeroUnlessIn, weaker, nothing_carried}
use Rattle.th_points.proofs.PointLemmas.{EndsAmong, ends_are_points}

-- how far other heights are above the heights at a point
abbrev above : (List ℕ → ℤ) → (List ℕ → ℤ) → List ℕ → ℤ
above heights others name = others name -ℤ heights name

-- the sum over the observations of flow times residual
abbrev gained : (List ℕ → ℤ) → List Observed → List ℤ → ℤ
gained heights [] flows = pos 0
gained heights (o ∷ observations) [] = pos 0
gained heights (o ∷ observations) (flow ∷ flows) = flow *ℤ residual o heights +ℤ gained heights observations flows

gained_parts : (heights others : List ℕ → ℤ) (observations : List Observed) (flows : List ℤ) → gained heights observations flows ≡ gained others observations flows +ℤ carried (above heights others) observations flows
gained_parts heights others [] flows = refl
gained_parts heights others (o ∷ observations) [] = refl
gained_parts heights others (o ∷ observations) (flow ∷ flows) =
    let s = residual o others in
    let v = above heights others o.target -ℤ above heights others o.station in
    let same : residual o heights ≡ s +ℤ v = omega (arith, ints) in
    let one : flow *ℤ residual o heights ≡ flow *ℤ s +ℤ flow *ℤ v = ap (λ z. flow *ℤ z) same ∙ times-plus flow s v in
    let rest = gained_parts heights others observations flows in
    omega (arith, ints)

-- where a benchmark keeps its height, nothing is above; elsewhere the flows are in balance
in_balance : (observations : List Observed) (benchmarks : BenchmarkRows) (flows : List ℤ) (heights others : List ℕ → ℤ) → IsHeights benchmarks heights → IsHeights benchmarks others → (name : List ℕ) → (height_of benchmarks name ≡ None → arriving observations flows name ≡ leaving observations flows name) → InBalance (above heights others) observations flows name
in_balance observations benchmarks flows heights others kept others_kept name balanced = by (height_of benchmarks name) refl
  where
    by : (found : Option ℤ) → height_of benchmarks name ≡ found → InBalance (above heights others) observations flows name
    by None e = inr (balanced e)
    by (Some height) e =
        let h = kept name height e in
        let g = others_kept name height e in
        inl (omega (arith, ints))

pub ends_zero : (observations : List Observed) (benchmarks : BenchmarkRows) (u : List ℕ → ℤ) → AllByRecursion (λ o. ZeroUnlessIn (points observations benchmarks) u o.station × ZeroUnlessIn (points observations benchmarks) u o.target) observations
ends_zero observations benchmarks u = weaker (EndsAmong (points observations benchmarks)) (λ o. ZeroUnlessIn (points observations benchmarks) u o.station × ZeroUnlessIn (points observations benchmarks) u o.target) (λ o h. ((λ absent. clash h.0 absent), (λ absent. clash h.1 absent))) observations (ends_are_points observations benchmarks)
  where
    clash : {P : Type 0} {b : Bool} → b ≡ true → b ≡ false → P
    clash present absent = absurd (grind arith)

-- a circulation gains the same at all heights that keep the benchmarks
same_gain : (observations : List Observed) (benchmarks : BenchmarkRows) (weights : WeightRows) (heights others : List ℕ → ℤ) (flows : List ℤ) → IsHeights benchmarks heights → IsHeights benchmarks others → Circulation observations benchmarks weights flows → gained heights observations flows ≡ gained others observations flows
same_gain observations benchmarks weights heights others flows kept others_kept circulation =
    let names = points observations benchmarks in
    let u = above heights others in
    let balanced = recursion_from_All (λ name. height_of benchmarks name ≡ None → arriving observations flows name ≡ leaving observations flows name) names circulation.balanced in
    let none = nothing_carried names u observations flows (weaker (λ name. height_of benchmarks name ≡ None → arriving observations flows name ≡ leaving observations flows name) (InBalance u observations flows) (in_balance observations benchmarks flows heights others kept others_kept) names balanced) (ends_zero observations benchmarks u) in
    let parts = gained_parts heights others observations flows in
    omega (arith, ints)

abbrev pub IsBounded : WeightRows → List Observed → List ℤ → Type 0
IsBounded weights observations flows = AllZip (λ o flow. unsigned_abs flow ≤ weight_of weights o.station o.target) observations flows

-- what an observation costs
abbrev costs : WeightRows → (List ℕ → ℤ) → Observed → ℕ
costs weights heights o = weight_of weights o.station o.target * unsigned_abs (residual o heights)

gained_most : (weights : WeightRows) (heights : List ℕ → ℤ) (observations : List Observed) (flows : List ℤ) → IsBounded weights observations flows → gained heights observations flows ≤ℤ pos (cost observations weights heights)
gained_most weights heights [] [] bounded = omega (arith, ints)
gained_most weights heights [] (flow ∷ flows) bounded = absurd bounded
gained_most weights heights (o ∷ observations) [] bounded = absurd bounded
gained_most weights heights (o ∷ observations) (flow ∷ flows) bounded =
    let one = times-le flow (residual o heights) (weight_of weights o.station o.target) bounded.0 in
    let rest = gained_most weights heights observations flows bounded.1 in
    let sum = sum_by-cons (costs weights heights) o observations in
    omega (arith, ints)

gained_shown : (weights : WeightRows) (heights : List ℕ → ℤ) (observations : List Observed) (flows : List ℤ) → Shows observations weights flows heights → gained heights observations flows ≡ pos (cost observations weights heights)
gained_shown weights heights [] [] shown = refl
gained_shown weights heights [] (flow ∷ flows) shown = absurd shown
gained_shown weights heights (o ∷ observations) [] shown = absurd shown
gained_shown weights heights (o ∷ observations) (flow ∷ flows) shown =
    let one = shown.0 in
    let rest = gained_shown weights heights observations flows shown.1 in
    let sum = sum_by-cons (costs weights heights) o observations in
    omega (arith, ints)

-- flows that gain the whole cost show the heights
shown_by_gain : (weights : WeightRows) (heights : List ℕ → ℤ) (observations : List Observed) (flows : List ℤ) → IsBounded weights observations flows → pos (cost observations weights heights) ≤ℤ gained heights observations flows → Shows observations weights flows heights
shown_by_gain weights heights [] [] bounded most = tt
shown_by_gain weights heights [] (flow ∷ flows) bounded most = absurd bounded
shown_by_gain weights heights (o ∷ observations) [] bounded most = absurd bounded
shown_by_gain weights heights (o ∷ observations) (flow ∷ flows) bounded most =
    let one = times-le flow (residual o heights) (weight_of weights o.station o.target) bounded.0 in
    let rest = gained_most weights heights observations flows bounded.1 in
    let sum = sum_by-cons (costs weights heights) o observations in
    (omega (arith, ints), shown_by_gain weights heights observations flows bounded.1 (omega (arith, ints)))

-- what a circulation shows is best
pub shown_is_best : (observations : List Observed) (benchmarks : BenchmarkRows) (weights : WeightRows) (heights : List ℕ → ℤ) (flows : List ℤ) → IsHeights benchmarks heights → Circulation observations benchmarks weights flows → Shows observations weights flows heights → Least observations benchmarks weights heights
shown_is_best observations benchmarks weights heights flows kept circulation shown = record {
  kept = kept;
  least = λ others others_kept.
      let same = same_gain observations benchmarks weights heights others flows kept others_kept circulation in
      let here = gained_shown weights heights observations flows shown in
      let there = gained_most weights others observations flows circulation.bounded in
      omega (arith, ints);
}

-- a circulation that shows heights shows all that are best
pub best_is_shown : (observations : List Observed) (benchmarks : BenchmarkRows) (weights : WeightRows) (heights best : List ℕ → ℤ) (flows : List ℤ) → IsHeights benchmarks heights → Circulation observations benchmarks weights flows → Shows observations weights flows heights → Least observations benchmarks weights best → Shows observations weights flows best
best_is_shown observations benchmarks weights heights best flows kept circulation shown is_best =
    let same = same_gain observations benchmarks weights heights best flows kept is_best.kept circulation in
    let here = gained_shown weights heights observations flows shown in
    let least = is_best.least heights kept in
    shown_by_gain weights best observations flows circulation.bounded (omega (arith, ints))
