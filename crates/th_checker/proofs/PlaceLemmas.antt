-- What stands at the places of the ends is what holds at the names.
use Rattle.std.proofs.Common.{◌≡◌, ◌<◌, ◌+◌, ◌*◌, ◌==◌, ◌||◌, ℕ, ℤ, pos, ◌+ℤ◌, ◌-ℤ◌, not, Bool, true, false, cond, if◌then◌else◌, List, [], ◌∷◌, length, get_or, map, Some, bytes_eq, nat_lt, sum_by, unsigned_abs, suc, zero, refl, sym, ap, ◌∙◌, arith}
use Rattle.std.specs.List.{AllByRecursion, IsDistinct, list_any, position_from, zip}
use Rattle.std.proofs.lemmas.Bool.Decides.{nat_tests}
use Rattle.std.proofs.lemmas.Int.{ints}
use Rattle.std.proofs.lemmas.List.Sums.{sum_by-cons}
use Rattle.std.proofs.lemmas.Map.Keys.{IsDistinct-head, IsDistinct-tail}
use Rattle.std.proofs.lemmas.Slice.Eq.{bytes_eq-Decides}
use Rattle.th_observations.specs.Observed.{Observed}
use Rattle.th_tables.specs.Rows.{WeightRows, weight_of}
use Rattle.th_network.specs.Circulation.{arriving, leaving, total_by}
use Rattle.th_network.specs.Heights.{cost, residual}
use Rattle.th_points.specs.Ends.{ends_in}
use Rattle.th_points.specs.Places.{place_of}
use Rattle.th_network.proofs.Balance.{total_by-cons}
use Rattle.th_points.proofs.PointLemmas.{EndsAmong}
use Rattle.th_checker.specs.Verdicts.{is_slack}
use Rattle.th_checker.specs.Inside.Tests.{added_at, is_slack_at, residual_at}

-- what is listed in the order of names, at the place of one
at_place : (names : List (List ℕ)) (heights : List ℕ → ℤ) (name : List ℕ) → list_any (bytes_eq name) names ≡ true → get_or (map heights names) (place_of names name) (pos 0) ≡ heights name
at_place [] heights name among = cc among
at_place (first ∷ names) heights name among = by (bytes_eq name first) (bytes_eq-Decides name first).0 (at_place names heights name) among
  where
    by : (same : Bool) → (same ≡ true → name ≡ first) → (list_any (bytes_eq name) names ≡ true → get_or (map heights names) (place_of names name) (pos 0) ≡ heights name) → (same || list_any (bytes_eq name) names) ≡ true
        → get_or (heights first ∷ map heights names) (if not same then 1 + place_of names name else 0) (pos 0) ≡ heights name
    by true equal more among = ap heights (sym (equal refl))
    by false equal more among =
        let next : 1 + place_of names name ≡ suc (place_of names name) = omega arith in
        ap (λ k. get_or (heights first ∷ map heights names) k (pos 0)) next ∙ more among

-- the residual by places
residual_by_places : (names : List (List ℕ)) (heights : List ℕ → ℤ) (o : Observed) → EndsAmong names o → residual_at (map heights names) (o, ends_in names o) ≡ residual o heights
residual_by_places names heights o among =
    ap (λ z. o.difference -ℤ (z -ℤ get_or (map heights names) (place_of names o.station) (pos 0))) (at_place names heights o.target among.1)
    ∙ ap (λ z. o.difference -ℤ (heights o.target -ℤ z)) (at_place names heights o.station among.0)

-- the weight of an observation
abbrev pub weight_by : WeightRows → Observed → ℕ
weight_by weights o = weight_of weights o.station o.target

-- the residuals of observations by places
pub residuals_by_places : (names : List (List ℕ)) (heights : List ℕ → ℤ) (observations : List Observed) → AllByRecursion (EndsAmong names) observations
    → map (residual_at (map heights names)) (zip observations (map (ends_in names) observations)) ≡ map (λ o. residual o heights) observations
residuals_by_places names heights [] among = refl
residuals_by_places names heights (o ∷ observations) among =
    ap (λ z. z ∷ map (residual_at (map heights names)) (zip observations (map (ends_in names) observations))) (residual_by_places names heights o among.0)
    ∙ ap (λ rest. residual o heights ∷ rest) (residuals_by_places names heights observations among.1)

-- the tests of flows
pub too_large_same : (weights : WeightRows) (observations : List Observed) (flows : List ℤ) (n : ℕ)
    → position_from (λ pair. nat_lt pair.0 (unsigned_abs pair.1)) n (zip (map (weight_by weights) observations) flows)
    ≡ position_from (λ pair. nat_lt (weight_of weights pair.0.station pair.0.target) (unsigned_abs pair.1)) n (zip observations flows)
too_large_same weights [] flows n = refl
too_large_same weights (o ∷ observations) [] n = refl
too_large_same weights (o ∷ observations) (flow ∷ flows) n = ap (cond (nat_lt (weight_by weights o) (unsigned_abs flow)) (Some n)) (too_large_same weights observations flows (n + 1))

pub not_slack_same : (weights : WeightRows) (heights : List ℕ → ℤ) (observations : List Observed) (flows : List ℤ) (n : ℕ)
    → position_from (λ it. not (is_slack_at it)) n (zip (map (weight_by weights) observations) (zip (map (λ o. residual o heights) observations) flows))
    ≡ position_from (λ pair. not (is_slack weights heights pair.0 pair.1)) n (zip observations flows)
not_slack_same weights heights [] flows n = refl
not_slack_same weights heights (o ∷ observations) [] n = refl
not_slack_same weights heights (o ∷ observations) (flow ∷ flows) n = ap (cond (not (is_slack weights heights o flow)) (Some n)) (not_slack_same weights heights observations flows (n + 1))

pub cost_by_places : (weights : WeightRows) (heights : List ℕ → ℤ) (observations : List Observed)
    → sum_by (λ pair. pair.0 * unsigned_abs pair.1) (zip (map (weight_by weights) observations) (map (λ o. residual o heights) observations)) ≡ cost observations weights heights
cost_by_places weights heights [] = refl
cost_by_places weights heights (o ∷ observations) =
    let f : ℕ × ℤ → ℕ = λ pair. pair.0 * unsigned_abs pair.1 in
    let g : Observed → ℕ = λ o. weight_of weights o.station o.target * unsigned_abs (residual o heights) in
    sum_by-cons f (weight_by weights o, residual o heights) (zip (map (weight_by weights) observations) (map (λ o. residual o heights) observations))
    ∙ ap (λ n. g o + n) (cost_by_places weights heights observations)
    ∙ sym (sum_by-cons g o observations)

-- tests of places
not_next : (n : ℕ) → (0 == suc n) ≡ false
not_next n = grind (arith, nat_tests)

shifted : (m n : ℕ) → (1 + m == suc n) ≡ (m == n)
shifted m n = by (m == n) refl
  where
    by : (same : Bool) → (m == n) ≡ same → (1 + m == suc n) ≡ same
    by true is = grind (arith, nat_tests)
    by false is = grind (arith, nat_tests)

-- whether a name stands at a place
place_test : (names : List (List ℕ)) (name : List ℕ) (place : ℕ) (d : List ℕ) → IsDistinct bytes_eq names → place < length names → (place_of names name == place) ≡ bytes_eq name (get_or names place d)
place_test [] name place d distinct within = absurd (omega arith)
place_test (first ∷ names) name zero d distinct within = by (bytes_eq name first)
  where
    by : (same : Bool) → ((if not same then 1 + place_of names name else 0) == 0) ≡ same
    by true = refl
    by false = grind (arith, nat_tests)
place_test (first ∷ names) name (suc place) d distinct within =
    by (bytes_eq name first) (bytes_eq-Decides name first).0 (place_test names name place d (IsDistinct-tail bytes_eq first names distinct) (omega arith)) (apart names place (IsDistinct-head bytes_eq first names distinct) (omega arith))
  where
    apart : (names : List (List ℕ)) (place : ℕ) → AllByRecursion (λ other. bytes_eq first other ≡ false) names → place < length names → bytes_eq first (get_or names place d) ≡ false
    apart [] place each within = absurd (omega arith)
    apart (next ∷ names) zero each within = each.0
    apart (next ∷ names) (suc place) each within = apart names place each.1 (omega arith)

    by : (same : Bool) → (same ≡ true → name ≡ first) → (place_of names name == place) ≡ bytes_eq name (get_or names place d) → bytes_eq first (get_or names place d) ≡ false
        → ((if not same then 1 + place_of names name else 0) == suc place) ≡ bytes_eq name (get_or names place d)
    by true equal more other = not_next place ∙ sym (ap (λ n. bytes_eq n (get_or names place d)) (equal refl) ∙ other)
    by false equal more other = shifted (place_of names name) place ∙ more

-- the balance at a place is that at its name
pub balance_by_places : (names : List (List ℕ)) (observations : List Observed) (flows : List ℤ) (place : ℕ) (d : List ℕ) → IsDistinct bytes_eq names → place < length names
    → total_by (added_at place) (zip (map (ends_in names) observations) flows) ≡ arriving observations flows (get_or names place d) -ℤ leaving observations flows (get_or names place d)
balance_by_places names [] flows place d distinct within = refl
balance_by_places names (o ∷ observations) [] place d distinct within = refl
balance_by_places names (o ∷ observations) (flow ∷ flows) place d distinct within =
    let point = get_or names place d in
    let f : Observed × ℤ → ℤ = λ pair. if bytes_eq pair.0.target point then pair.1 else pos 0 in
    let g : Observed × ℤ → ℤ = λ pair. if bytes_eq pair.0.station point then pair.1 else pos 0 in
    let rest = balance_by_places names observations flows place d distinct within in
    let one : added_at place (ends_in names o, flow) ≡ f (o, flow) -ℤ g (o, flow) =
    ap (λ b. (if b then flow else pos 0) -ℤ (if place_of names o.station == place then flow else pos 0)) (place_test names o.target place d distinct within)
    ∙ ap (λ b. f (o, flow) -ℤ (if b then flow else pos 0)) (place_test names o.station place d distinct within) in
    let a = total_by-cons (added_at place) (ends_in names o, flow) (zip (map (ends_in names) observations) flows) in
    let b = total_by-cons f (o, flow) (zip observations flows) in
    let c = total_by-cons g (o, flow) (zip observations flows) in
    joined (total_by (added_at place) (zip (map (ends_in names) (o ∷ observations)) (flow ∷ flows))) (added_at place (ends_in names o, flow)) (total_by (added_at place) (zip (map (ends_in names) observations) flows))
    (arriving (o ∷ observations) (flow ∷ flows) point) (f (o, flow)) (arriving observations flows point) (leaving (o ∷ observations) (flow ∷ flows) point) (g (o, flow)) (leaving observations flows point) a b c rest one
  where
    joined : (all first rest arriving arriving_first arriving_rest leaving leaving_first leaving_rest : ℤ) → all ≡ first +ℤ rest → arriving ≡ arriving_first +ℤ arriving_rest → leaving ≡ leaving_first +ℤ leaving_rest
        → rest ≡ arriving_rest -ℤ leaving_rest → first ≡ arriving_first -ℤ leaving_first → all ≡ arriving -ℤ leaving
    joined all first rest arriving arriving_first arriving_rest leaving leaving_first leaving_rest a b c d e = omega (arith, ints)
