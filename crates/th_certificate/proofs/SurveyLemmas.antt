-- What holds of the points and the cost of a network.
use Rattle.std.proofs.Common.{◌≡◌, ◌<◌, ◌≤◌, ◌*◌, ℕ, ℤ, ◌-ℤ◌, Bool, true, false, ◌||◌, List, [], ◌∷◌, bytes_eq, unsigned_abs, refl, sym, subst, arith}
use Rattle.std.specs.List.{AllByRecursion, list_any}
use Rattle.std.proofs.Math.Nat.{mul-le-mul}
use Rattle.std.proofs.lemmas.Int.{ints}
use Rattle.std.proofs.lemmas.List.Elements.{All-from_recursion, recursion_from_All}
use Rattle.std.proofs.lemmas.List.Sums.{sum_by-le}
use Rattle.std.proofs.lemmas.Slice.Eq.{bytes_eq-Decides}
use Rattle.th_observations.specs.Observed.{IsBetweenPoints, Observed, largest_difference}
use Rattle.th_tables.specs.Limits.{max_weight}
use Rattle.th_tables.specs.Rows.{AreWeights, WeightRows}
use Rattle.th_tables.proofs.WeightLemmas.{weight_is}
use Rattle.th_network.specs.Networks.{AreInRange, Survey, points_of}
use Rattle.th_points.proofs.PointLemmas.{EndsAmong, ends_are_points}
use Rattle.th_blunders.proofs.CostLemmas.{weighted}
use Rattle.th_certificate.specs.Certified.{cost_limit}
use Rattle.th_network.specs.Limits.{height_limit}
use Rattle.th_certificate.specs.Texts.{IsCertifiable, cost_of}
use Rattle.th_certificate.specs.Limits.{most_residual}

-- what holds of each point holds of a name that is one
pub at_point : (P : List ℕ → Type 0) (names : List (List ℕ)) (name : List ℕ) → AllByRecursion P names → list_any (bytes_eq name) names ≡ true → P name
at_point P [] name each among = cc among
at_point P (first ∷ names) name each among = by (bytes_eq name first) (bytes_eq-Decides name first).0 (at_point P names name each.1) among
  where
    by : (same : Bool) → (same ≡ true → name ≡ first) → (list_any (bytes_eq name) names ≡ true → P name) → (same || list_any (bytes_eq name) names) ≡ true → P name
    by true equal more among = subst P (sym (equal refl)) each.0
    by false equal more among = more among

-- a residual of heights in their range is in its range
pub residual_small : (difference target station : ℤ) → unsigned_abs difference ≤ largest_difference → unsigned_abs target < height_limit → unsigned_abs station < height_limit → unsigned_abs (difference -ℤ (target -ℤ station)) ≤ most_residual
residual_small difference target station a b c = omega (arith, ints)

-- each weighted residual of a network is in its range
each_small : (weights : WeightRows) (heights : List ℕ → ℤ) (names : List (List ℕ)) (observations : List Observed) → AreWeights weights → AllByRecursion (λ name. unsigned_abs (heights name) < height_limit) names
    → AllByRecursion IsBetweenPoints observations → AllByRecursion (EndsAmong names) observations → AllByRecursion (λ o. weighted weights heights o ≤ max_weight * most_residual) observations
each_small weights heights names [] valid each between among = tt
each_small weights heights names (o ∷ observations) valid each between among = (
  mul-le-mul (weight_is weights valid o.station o.target).1
      (residual_small o.difference (heights o.target) (heights o.station) between.0.in_range
      (at_point (λ name. unsigned_abs (heights name) < height_limit) names o.target each among.0.1)
      (at_point (λ name. unsigned_abs (heights name) < height_limit) names o.station each among.0.0)),
  each_small weights heights names observations valid each between.1 among.1,
)

-- the cost of heights in their range is in its range
pub cost_of_small : (survey : Survey) (heights : List ℕ → ℤ) → IsCertifiable survey → AreInRange survey heights → cost_of survey heights < cost_limit
cost_of_small survey heights certifiable in_range =
    let each = each_small survey.weights heights (points_of survey) survey.observations certifiable.weights
    (recursion_from_All (λ name. unsigned_abs (heights name) < height_limit) (points_of survey) in_range)
    (recursion_from_All IsBetweenPoints survey.observations certifiable.between)
    (ends_are_points survey.observations survey.benchmarks) in
    let bound = sum_by-le (weighted survey.weights heights) (max_weight * most_residual) survey.observations (All-from_recursion (λ o. weighted survey.weights heights o ≤ max_weight * most_residual) survey.observations each) in
    let few = certifiable.network.few_observations in
    omega (arith, bound, mul-le-mul few (le_itself (max_weight * most_residual)))
  where
    le_itself : (n : ℕ) → n ≤ n
    le_itself n = omega arith
