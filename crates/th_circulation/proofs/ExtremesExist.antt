-- Among the heights that cost least there are lowest and highest ones.
use Rattle.std.proofs.Common.{◌≡◌, ℕ, Bool, true, false, ◌+◌, ◌*◌, ◌≤◌, ℤ, pos, ◌+ℤ◌, ◌-ℤ◌, ◌≤ℤ◌, All, List, [], ◌∷◌, if◌then◌else◌, unsigned_abs, refl, mul-le-mul_left, arith}
use Rattle.std.specs.Prelude.{◌<ℤ◌, slice_index_or}
use Rattle.std.specs.List.{AllByRecursion}
use Rattle.std.proofs.lemmas.Int.{ints}
use Rattle.std.proofs.lemmas.List.Elements.{All-from_recursion, recursion_from_All}
use Rattle.std.proofs.lemmas.List.Sums.{sum_by-cons}
use lib.Signed.{lt_z}
use Rattle.th_observations.specs.Observed.{Observed}
use Rattle.th_tables.specs.Rows.{AreWeights, BenchmarkRows, WeightRows, weight_of}
use Rattle.th_points.specs.Points.{points}
use Rattle.th_network.specs.Heights.{IsHeights, Least, cost, residual}
use Rattle.th_network.specs.Walks.{Anchored, IsTied}
use Rattle.th_points.proofs.PointLemmas.{is_among}
use Rattle.th_circulation.specs.Extremes.{High, Low}
use Rattle.th_circulation.proofs.BestExists.{IsNear, IsRanked, Map, alone_kept, benchmarks_alone, best_exists, each_inside, none_less}
use Rattle.th_circulation.proofs.ExtremeLemmas.{all_among, among_at, names_near, small_of_cost}
use Rattle.th_circulation.proofs.MisreadLemmas.{lt_z-false, lt_z-true}
use Rattle.th_tables.proofs.WeightLemmas.{heavy}

-- ---- two maps of heights: the lower height at each name, and the higher one
abbrev lower : Map → Map → Map
lower x y name = if lt_z (y name) (x name) then y name else x name

abbrev higher : Map → Map → Map
higher x y name = if lt_z (y name) (x name) then x name else y name

lower_kept : (benchmarks : BenchmarkRows) (x y : Map) → IsHeights benchmarks x → IsHeights benchmarks y → IsHeights benchmarks (lower x y)
lower_kept benchmarks x y x_kept y_kept name height e = by (lt_z (y name) (x name))
  where
    by : (b : Bool) → (if b then y name else x name) ≡ height
    by true = y_kept name height e
    by false = x_kept name height e

higher_kept : (benchmarks : BenchmarkRows) (x y : Map) → IsHeights benchmarks x → IsHeights benchmarks y → IsHeights benchmarks (higher x y)
higher_kept benchmarks x y x_kept y_kept name height e = by (lt_z (y name) (x name))
  where
    by : (b : Bool) → (if b then x name else y name) ≡ height
    by true = x_kept name height e
    by false = y_kept name height e

-- together these two leave residuals of no larger size
crossed : (d xs xt ys yt : ℤ) → ys ≤ℤ xs → xt ≤ℤ yt → unsigned_abs (d -ℤ (xt -ℤ ys)) + unsigned_abs (d -ℤ (yt -ℤ xs)) ≤ unsigned_abs (d -ℤ (xt -ℤ xs)) + unsigned_abs (d -ℤ (yt -ℤ ys))
crossed d xs xt ys yt s t = omega (arith, ints)

together : (d xs xt ys yt : ℤ) (s t : Bool) → (s ≡ true → ys <ℤ xs) → (s ≡ false → xs ≤ℤ ys) → (t ≡ true → yt <ℤ xt) → (t ≡ false → xt ≤ℤ yt)
    → unsigned_abs (d -ℤ ((if t then yt else xt) -ℤ (if s then ys else xs))) + unsigned_abs (d -ℤ ((if t then xt else yt) -ℤ (if s then xs else ys))) ≤ unsigned_abs (d -ℤ (xt -ℤ xs)) + unsigned_abs (d -ℤ (yt -ℤ ys))
together d xs xt ys yt true true s s' t t' = omega arith
together d xs xt ys yt false false s s' t t' = omega arith
together d xs xt ys yt true false s s' t t' = (let a = s refl in let b = t' refl in crossed d xs xt ys yt (omega (arith, ints)) b)
together d xs xt ys yt false true s s' t t' = (let a = s' refl in let b = t refl in (let it = crossed d ys yt xs xt a (omega (arith, ints)) in omega arith))

weighed : (w a b c e : ℕ) → a + b ≤ c + e → w * a + w * b ≤ w * c + w * e
weighed w a b c e less = (let more = mul-le-mul_left w less in omega arith)

cost_together : (weights : WeightRows) (x y : Map) (observations : List Observed) → cost observations weights (lower x y) + cost observations weights (higher x y) ≤ cost observations weights x + cost observations weights y
cost_together weights x y [] = omega arith
cost_together weights x y (o ∷ observations) =
    let weight = weight_of weights o.station o.target in
    let a = sum_by-cons (λ o. weight_of weights o.station o.target * unsigned_abs (residual o (lower x y))) o observations in
    let b = sum_by-cons (λ o. weight_of weights o.station o.target * unsigned_abs (residual o (higher x y))) o observations in
    let c = sum_by-cons (λ o. weight_of weights o.station o.target * unsigned_abs (residual o x)) o observations in
    let e = sum_by-cons (λ o. weight_of weights o.station o.target * unsigned_abs (residual o y)) o observations in
    let rest = cost_together weights x y observations in
    let here = together o.difference (x o.station) (x o.target) (y o.station) (y o.target) (lt_z (y o.station) (x o.station)) (lt_z (y o.target) (x o.target))
    (lt_z-true (y o.station) (x o.station)) (lt_z-false (y o.station) (x o.station)) (lt_z-true (y o.target) (x o.target)) (lt_z-false (y o.target) (x o.target)) in
    let one = weighed weight (unsigned_abs (residual o (lower x y))) (unsigned_abs (residual o (higher x y))) (unsigned_abs (residual o x)) (unsigned_abs (residual o y)) here in
    omega arith

-- ---- the first by how low it is, and the first by how high it is
abbrev rise : ℕ → ℤ → ℕ
rise k a = unsigned_abs (a +ℤ pos k)

abbrev fall : ℕ → ℤ → ℕ
fall k a = unsigned_abs (pos k -ℤ a)

rise_small : (k : ℕ) (a : ℤ) → IsNear k a → rise k a ≤ 2 * k
rise_small k a near = omega (arith, ints)

fall_small : (k : ℕ) (a : ℤ) → IsNear k a → fall k a ≤ 2 * k
fall_small k a near = omega (arith, ints)

lower_rises : (k : ℕ) (a b : ℤ) → IsNear k a → IsNear k b → (t : Bool) → lt_z b a ≡ t → rise k (if t then b else a) ≤ rise k a
lower_rises k a b near near' true e = (let less = lt_z-true b a e in omega (arith, ints))
lower_rises k a b near near' false e = omega arith

higher_falls : (k : ℕ) (a b : ℤ) → IsNear k a → IsNear k b → (t : Bool) → lt_z b a ≡ t → fall k (if t then a else b) ≤ fall k a
higher_falls k a b near near' true e = omega arith
higher_falls k a b near near' false e = (let more = lt_z-false b a e in omega (arith, ints))

lower_same : (k : ℕ) (a b : ℤ) → IsNear k a → IsNear k b → (t : Bool) → lt_z b a ≡ t → rise k (if t then b else a) ≡ rise k a → a ≤ℤ b
lower_same k a b near near' true e same = (let less = lt_z-true b a e in absurd (omega (arith, ints)))
lower_same k a b near near' false e same = lt_z-false b a e

higher_same : (k : ℕ) (a b : ℤ) → IsNear k a → IsNear k b → (t : Bool) → lt_z b a ≡ t → fall k (if t then a else b) ≡ fall k a → b ≤ℤ a
higher_same k a b near near' true e same = (let less = lt_z-true b a e in omega (arith, ints))
higher_same k a b near near' false e same = (let more = lt_z-false b a e in omega (arith, ints))

module _ (observations : List Observed) (benchmarks : BenchmarkRows) (weights : WeightRows) (k : ℕ)
    (near : (x : Map) → IsHeights benchmarks x → cost observations weights x ≤ cost observations weights (benchmarks_alone benchmarks) → (name : List ℕ) → is_among (points observations benchmarks) name ≡ true → IsNear k (x name)) where
  abbrev names : List (List ℕ)
  names = points observations benchmarks

  inside : AllByRecursion (λ name. is_among names name ≡ true) names
  inside = all_among names names (λ name e. e)

  best_near : (x : Map) → Least observations benchmarks weights x → (name : List ℕ) → is_among names name ≡ true → IsNear k (x name)
  best_near x best = near x best.kept (best.least (benchmarks_alone benchmarks) (alone_kept benchmarks))

  low_of : (best : Map) → IsRanked observations benchmarks weights (rise k) best → Low observations benchmarks weights best
  low_of best ranks = record { best = is_best; lowest = lowest }
    where
      is_best : Least observations benchmarks weights best
      is_best = record { kept = ranks.kept; least = ranks.least }

      same : (others : Map) → Least observations benchmarks weights others → AllByRecursion (λ name. rise k (lower best others name) ≡ rise k (best name)) names
      same others least =
          let kept = lower_kept benchmarks best others ranks.kept least.kept in
          let cross = cost_together weights best others observations in
          let no_less = ranks.least (higher best others) (higher_kept benchmarks best others ranks.kept least.kept) in
          let no_more = least.least best ranks.kept in
          let first = ranks.first (lower best others) kept (omega arith) in
          none_less (λ name. rise k (lower best others name)) (λ name. rise k (best name)) names
          (each_inside (λ name. rise k (lower best others name) ≤ rise k (best name)) names names inside (λ name there. lower_rises k (best name) (others name) (best_near best is_best name there) (best_near others least name there) (lt_z (others name) (best name)) refl))
          first

      lowest : (others : Map) → Least observations benchmarks weights others → All (λ point. best point ≤ℤ others point) names
      lowest others least i d within =
          let name = slice_index_or names i d in
          let there = among_at names i d within in
          let here = All-from_recursion (λ name. rise k (lower best others name) ≡ rise k (best name)) names (same others least) i d within in
          lower_same k (best name) (others name) (best_near best is_best name there) (best_near others least name there) (lt_z (others name) (best name)) refl here

  high_of : (best : Map) → IsRanked observations benchmarks weights (fall k) best → High observations benchmarks weights best
  high_of best ranks = record { best = is_best; highest = highest }
    where
      is_best : Least observations benchmarks weights best
      is_best = record { kept = ranks.kept; least = ranks.least }

      same : (others : Map) → Least observations benchmarks weights others → AllByRecursion (λ name. fall k (higher best others name) ≡ fall k (best name)) names
      same others least =
          let kept = higher_kept benchmarks best others ranks.kept least.kept in
          let cross = cost_together weights best others observations in
          let no_less = ranks.least (lower best others) (lower_kept benchmarks best others ranks.kept least.kept) in
          let no_more = least.least best ranks.kept in
          let first = ranks.first (higher best others) kept (omega arith) in
          none_less (λ name. fall k (higher best others name)) (λ name. fall k (best name)) names
          (each_inside (λ name. fall k (higher best others name) ≤ fall k (best name)) names names inside (λ name there. higher_falls k (best name) (others name) (best_near best is_best name there) (best_near others least name there) (lt_z (others name) (best name)) refl))
          first

      highest : (others : Map) → Least observations benchmarks weights others → All (λ point. others point ≤ℤ best point) names
      highest others least i d within =
          let name = slice_index_or names i d in
          let there = among_at names i d within in
          let here = All-from_recursion (λ name. fall k (higher best others name) ≡ fall k (best name)) names (same others least) i d within in
          higher_same k (best name) (others name) (best_near best is_best name there) (best_near others least name there) (lt_z (others name) (best name)) refl here

  found_low : (low : Map) × Low observations benchmarks weights low
  found_low = by (best_exists observations benchmarks weights k inside near (rise k) (rise_small k))
    where
      by : (best : Map) × IsRanked observations benchmarks weights (rise k) best → (low : Map) × Low observations benchmarks weights low
      by found = (found.0, low_of found.0 found.1)

  found_high : (high : Map) × High observations benchmarks weights high
  found_high = by (best_exists observations benchmarks weights k inside near (fall k) (fall_small k))
    where
      by : (best : Map) × IsRanked observations benchmarks weights (fall k) best → (high : Map) × High observations benchmarks weights high
      by found = (found.0, high_of found.0 found.1)

-- heights that cost no more than the benchmarks alone are near zero at all points
abbrev AllNear : List Observed → BenchmarkRows → WeightRows → ℕ → Type 0
AllNear observations benchmarks weights k =
    (x : Map) → IsHeights benchmarks x → cost observations weights x ≤ cost observations weights (benchmarks_alone benchmarks) → (name : List ℕ) → is_among (points observations benchmarks) name ≡ true → IsNear k (x name)

all_near : (observations : List Observed) (benchmarks : BenchmarkRows) (weights : WeightRows) → AreWeights weights → Anchored observations benchmarks → (k : ℕ) × AllNear observations benchmarks weights k
all_near observations benchmarks weights are anchored =
    let most = cost observations weights (benchmarks_alone benchmarks) in
    let found = names_near observations benchmarks most (points observations benchmarks) (recursion_from_All (IsTied observations benchmarks) (points observations benchmarks) anchored) in (
      found.0,
      λ x kept low name there. (
          let near = found.1 x kept (small_of_cost weights x most observations (heavy weights are) low) name there in
          let below = near.0 in
          let above = near.1 in
          omega (arith, ints)),
    )

pub lowest_exists : (observations : List Observed) (benchmarks : BenchmarkRows) (weights : WeightRows) → AreWeights weights → Anchored observations benchmarks → (low : List ℕ → ℤ) × Low observations benchmarks weights low
lowest_exists observations benchmarks weights are anchored =
    let near = all_near observations benchmarks weights are anchored in
    found_low observations benchmarks weights near.0 near.1

pub highest_exists : (observations : List Observed) (benchmarks : BenchmarkRows) (weights : WeightRows) → AreWeights weights → Anchored observations benchmarks → (high : List ℕ → ℤ) × High observations benchmarks weights high
highest_exists observations benchmarks weights are anchored =
    let near = all_near observations benchmarks weights are anchored in
    found_high observations benchmarks weights near.0 near.1
