-- No observation crosses a cut whose crossing flows are all full to one side, so in a network whose points are tied no point is inside.
use Rattle.std.proofs.Common.{◌≡◌, ℕ, Bool, true, false, ◌≤◌, ℤ, pos, ◌-ℤ◌, ◌*ℤ◌, ◌≤ℤ◌, inl, inr, List, [], ◌∷◌, Option, Some, None, IsSome, if◌then◌else◌, refl, ap, subst, sym, arith}
use Rattle.std.proofs.lemmas.Int.{ints}
use Rattle.std.proofs.lemmas.List.Elements.{All-from_recursion, recursion_from_All}
use Rattle.std.proofs.Math.IntN.{*ℤ-zero}
use Rattle.std.specs.List.{AllZip, AllByRecursion}
use Rattle.th_observations.specs.Observed.{Observed}
use Rattle.th_tables.specs.Rows.{BenchmarkRows, WeightRows, height_of, weight_of}
use Rattle.th_points.specs.Points.{points}
use Rattle.th_network.specs.Circulation.{Circulation, arriving, leaving}
use Rattle.th_network.specs.Walks.{IsTied}
use Rattle.th_network.proofs.Products.{times-minus}
use Rattle.th_network.proofs.Balance.{carried, InBalance, weaker, nothing_carried}
use Rattle.th_network.proofs.WalkLemmas.{untied_inside}
use Rattle.th_circulation.specs.Inside.Cuts.{LeavesFull}
use Rattle.th_circulation.proofs.BestLemmas.{ends_zero}

-- 1 below 0 inside
abbrev depth : (List ℕ → Bool) → List ℕ → ℤ
depth inside name = if inside name then (pos 0 -ℤ pos 1) else pos 0

-- what one observation carries is nothing, and it does not cross, or at least 1
one_crosses : (w : ℕ) (f : ℤ) (s t : Bool) → 1 ≤ w → (s ≡ true → t ≡ false → f ≡ pos w) → (s ≡ false → t ≡ true → f ≡ pos 0 -ℤ pos w) → (pos 0 ≤ℤ (f *ℤ ((if t then (pos 0 -ℤ pos 1) else pos 0) -ℤ (if s then (pos 0 -ℤ pos 1) else pos 0)))) × ((f *ℤ ((if t then (pos 0 -ℤ pos 1) else pos 0) -ℤ (if s then (pos 0 -ℤ pos 1) else pos 0))) ≤ℤ pos 0 → s ≡ t)
one_crosses w f true true heavy out back = let none = *ℤ-zero f in (omega (arith, ints), λ low. refl)
one_crosses w f false false heavy out back = let none = *ℤ-zero f in (omega (arith, ints), λ low. refl)
one_crosses w f true false heavy out back =
    let whole = out refl refl in
    let one : f *ℤ pos 1 ≡ f = omega (arith, ints) in
    (omega (arith, ints), λ low. absurd (omega (arith, ints)))
one_crosses w f false true heavy out back =
    let whole = back refl refl in
    let one : f *ℤ pos 1 ≡ f = omega (arith, ints) in
    let none = *ℤ-zero f in
    let turned = times-minus f (pos 0) (pos 1) in
    (omega (arith, ints), λ low. absurd (omega (arith, ints)))

-- each observation weighs something
abbrev pub AreHeavy : WeightRows → List Observed → Type 0
AreHeavy weights observations = AllByRecursion (λ o. 1 ≤ weight_of weights o.station o.target) observations

carried_more : (weights : WeightRows) (inside : List ℕ → Bool) (observations : List Observed) (flows : List ℤ) → AreHeavy weights observations → AllZip (LeavesFull inside weights) observations flows → pos 0 ≤ℤ carried (depth inside) observations flows
carried_more weights inside [] [] heavy full = omega (arith, ints)
carried_more weights inside [] (flow ∷ flows) heavy full = omega (arith, ints)
carried_more weights inside (o ∷ observations) [] heavy full = omega (arith, ints)
carried_more weights inside (o ∷ observations) (flow ∷ flows) heavy full =
    let one = (one_crosses (weight_of weights o.station o.target) flow (inside o.station) (inside o.target) heavy.0 full.0.0 full.0.1).0 in
    let rest = carried_more weights inside observations flows heavy.1 full.1 in
    omega (arith, ints)

none_crosses : (weights : WeightRows) (inside : List ℕ → Bool) (observations : List Observed) (flows : List ℤ) → AreHeavy weights observations → AllZip (LeavesFull inside weights) observations flows → carried (depth inside) observations flows ≤ℤ pos 0 → AllByRecursion (λ o. inside o.station ≡ inside o.target) observations
none_crosses weights inside [] flows heavy full none = tt
none_crosses weights inside (o ∷ observations) [] heavy full none = absurd full
none_crosses weights inside (o ∷ observations) (flow ∷ flows) heavy full none =
    let one = one_crosses (weight_of weights o.station o.target) flow (inside o.station) (inside o.target) heavy.0 full.0.0 full.0.1 in
    let more = one.0 in
    let rest = carried_more weights inside observations flows heavy.1 full.1 in
    (one.1 (omega (arith, ints)), none_crosses weights inside observations flows heavy.1 full.1 (omega (arith, ints)))

depth_balance : (inside : List ℕ → Bool) (observations : List Observed) (benchmarks : BenchmarkRows) (flows : List ℤ) → ((name : List ℕ) → IsSome (height_of benchmarks name) → inside name ≡ false) → (name : List ℕ) → (height_of benchmarks name ≡ None → arriving observations flows name ≡ leaving observations flows name) → InBalance (depth inside) observations flows name
depth_balance inside observations benchmarks flows outside name balanced = by (height_of benchmarks name) refl
  where
    by : (found : Option ℤ) → height_of benchmarks name ≡ found → InBalance (depth inside) observations flows name
    by None e = inr (balanced e)
    by (Some height) e = inl (ap (λ b. if b then (pos 0 -ℤ pos 1) else pos 0) (outside name (subst IsSome (sym e) refl)))

-- where each crossing flow leaves the inside full and every benchmark is outside, no point inside is tied
pub untied_where_full : (observations : List Observed) (benchmarks : BenchmarkRows) (weights : WeightRows) (flows : List ℤ) (inside : List ℕ → Bool) → AreHeavy weights observations → Circulation observations benchmarks weights flows → ((name : List ℕ) → IsSome (height_of benchmarks name) → inside name ≡ false) → AllZip (LeavesFull inside weights) observations flows → (point : List ℕ) → inside point ≡ true → ¬ IsTied observations benchmarks point
untied_where_full observations benchmarks weights flows inside heavy circulation outside full =
    let names = points observations benchmarks in
    let u = depth inside in
    let balanced = recursion_from_All (λ name. height_of benchmarks name ≡ None → arriving observations flows name ≡ leaving observations flows name) names circulation.balanced in
    let none = nothing_carried names u observations flows (weaker (λ name. height_of benchmarks name ≡ None → arriving observations flows name ≡ leaving observations flows name) (InBalance u observations flows) (depth_balance inside observations benchmarks flows outside) names balanced) (ends_zero observations benchmarks u) in
    let level = none_crosses weights inside observations flows heavy full (omega (arith, ints)) in
    untied_inside observations benchmarks inside (All-from_recursion (λ o. inside o.station ≡ inside o.target) observations level) outside
