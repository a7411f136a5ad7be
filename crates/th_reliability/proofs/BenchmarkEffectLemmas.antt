-- What a flow from vertex 0 shows of a benchmark: its observations have an end there, and the least that a set drains is its strength.
use Rattle.std.proofs.Common.{◌≡◌, ◌≢◌, ℕ, zero, suc, ℤ, cond, is_some, get_or, ◌+◌, ◌-◌, ◌<◌, Bool, true, false, not, ◌&&◌, ◌||◌, List, [], ◌∷◌, length, slice_get, Option, Some, None, IsSome, All, inl, inr, if◌then◌else◌, bytes_eq, ltb, count_by, refl, ap, subst, sym, ◌∙◌, arith}
use Rattle.std.specs.Prelude.{slice_index_or}
use Rattle.std.proofs.lemmas.Bool.{false≢true, ltb-false, ltb-true, or_left, or_right}
use Rattle.std.proofs.lemmas.List.Elements.{All-head, All-tail}
use Rattle.std.proofs.lemmas.List.Sums.{sum_by-cons}
use Rattle.std.proofs.lemmas.Option.{get_or_from_slice_get, slice_get_within}
use Rattle.std.proofs.lemmas.Slice.Eq.{bytes_eq-Decides}
use Rattle.th_observations.specs.Observed.{IsBetweenPoints, Observed}
use Rattle.th_tables.specs.Rows.{BenchmarkRows, WeightRows, height_of, weight_of}
use Rattle.th_network.specs.Networks.{Survey}
use Rattle.th_reliability.specs.BenchmarkEffects.{HasBenchmarkEffect, HasBenchmarkStrength, IsBenchmarkStrength, IsOwnSet}
use Rattle.th_reliability.specs.Benchmarks.{has_end}
use Rattle.th_reliability.specs.Blunders.{weight_in}
use Rattle.th_reliability.specs.Cuts.{IsFreeSet, crosses, cut, differ}
use Rattle.th_reliability.specs.Effects.{IsEffect}
use Rattle.th_reliability.specs.Groups.{own_cut, rest_cut}
use Rattle.th_reliability.specs.Inside.Effects.{IsLeastDrained}
use Rattle.th_reliability.specs.Inside.Targets.{AreAtVertex, IsAtVertex, vertex}
use Rattle.th_reliability.specs.declared.effects.Effect.{Effect}
use Rattle.th_reliability.proofs.VertexLemmas.{fixed_vertex}

-- ---- a benchmark has vertex 0
pub at_vertex : (survey : Survey) (point : List ℕ) → IsSome (height_of survey.benchmarks point) → AreAtVertex survey (has_end point) 0
at_vertex survey point fixed k d within has = by (slice_index_or survey.observations k d) has
  where
    zero_there : (name : List ℕ) → bytes_eq name point ≡ true → vertex survey name ≡ 0
    zero_there name e = ap (vertex survey) ((bytes_eq-Decides name point).0 e) ∙ fixed_vertex survey.observations survey.benchmarks point fixed

    by : (o : Observed) → has_end point o ≡ true → IsAtVertex survey 0 o
    by o has = cases (bytes_eq o.station point) (bytes_eq o.target point) refl refl has
      where
        cases : (s t : Bool) → bytes_eq o.station point ≡ s → bytes_eq o.target point ≡ t → (s || t) ≡ true → IsAtVertex survey 0 o
        cases true t e f some = inl (zero_there o.station e)
        cases false true e f some = inr (zero_there o.target f)
        cases false false e f some = absurd (false≢true some)

-- ---- a row's name is that of a benchmark
row_listed : (rows : BenchmarkRows) (k : ℕ) (row : List ℕ × ℤ) → k < length rows → get_or rows k row ≡ row → IsSome (height_of rows row.0)
row_listed [] k row within here = absurd (omega (arith, within))
row_listed (first ∷ rows) zero row within here =
    let same : bytes_eq row.0 first.0 ≡ true = (bytes_eq-Decides row.0 first.0).1 (ap (λ (own : List ℕ × ℤ). own.0) (sym here)) in
    ap (λ (b : Bool). is_some (cond b (Some first.1) (height_of rows row.0))) same
row_listed (first ∷ rows) (suc k) row within here = by (bytes_eq row.0 first.0) (row_listed rows k row (omega arith) here)
  where
    by : (b : Bool) → IsSome (height_of rows row.0) → is_some (cond b (Some first.1) (height_of rows row.0)) ≡ true
    by true later = refl
    by false later = later

pub row_is_benchmark : (rows : BenchmarkRows) (k : ℕ) (row : List ℕ × ℤ) → slice_get rows k ≡ Some row → IsSome (height_of rows row.0)
row_is_benchmark rows k row at = row_listed rows k row (slice_get_within rows k row at) (get_or_from_slice_get rows k row row at)

-- ---- a free set, and the same set with the benchmark
-- the first set is the second one with the benchmark
pub record IsWith (point : List ℕ) (with without : List ℕ → Bool) : Type 0 where
  pub same : (name : List ℕ) → with name ≡ (bytes_eq name point || without name)
  pub off : without point ≡ false

-- an observation with this weight, from or to the benchmark or neither, and its ends in the set without it or not
one_cut : (w : ℕ) (p q s t : Bool) → (p ≡ true → s ≡ false) → (q ≡ true → t ≡ false) → (p ≡ true → q ≡ true → ⊥)
    → (if differ (p || s) (q || t) then w else 0) + (if p || q then (if differ s t then w else 0) else 0) ≡ (if p || q then 0 else (if differ s t then w else 0)) + (if p || q then w else 0)
one_cut w true true s t out off apart = absurd (apart refl refl)
one_cut w true false true t out off apart = absurd (false≢true (sym (out refl)))
one_cut w true false false true out off apart = omega arith
one_cut w true false false false out off apart = omega arith
one_cut w false true s true out off apart = absurd (false≢true (sym (off refl)))
one_cut w false true true false out off apart = omega arith
one_cut w false true false false out off apart = omega arith
one_cut w false false s t out off apart = omega arith

one_is : (weights : WeightRows) (point : List ℕ) (with without : List ℕ → Bool) → IsWith point with without → (o : Observed) → o.station ≢ o.target → (if crosses with o then weight_of weights o.station o.target else 0) + (if has_end point o then (if crosses without o then weight_of weights o.station o.target else 0) else 0) ≡ (if has_end point o then 0 else (if crosses without o then weight_of weights o.station o.target else 0)) + (if has_end point o then weight_of weights o.station o.target else 0)
one_is weights point with without is o apart =
    let w = weight_of weights o.station o.target in
    let there = one_cut w (bytes_eq o.station point) (bytes_eq o.target point) (without o.station) (without o.target) (out o.station) (out o.target) (λ p q. apart ((bytes_eq-Decides o.station point).0 p ∙ sym ((bytes_eq-Decides o.target point).0 q))) in
    let here = ap (λ (b : Bool). if b then w else 0) (ap (λ (s : Bool). differ s (with o.target)) (is.same o.station) ∙ ap (differ (bytes_eq o.station point || without o.station)) (is.same o.target)) in
    omega (arith, here, there)
  where
    out : (name : List ℕ) → bytes_eq name point ≡ true → without name ≡ false
    out name e = ap without ((bytes_eq-Decides name point).0 e) ∙ is.off

cut_with : (observations : List Observed) (weights : WeightRows) (point : List ℕ) (with without : List ℕ → Bool) → IsWith point with without → All IsBetweenPoints observations → cut observations weights with + own_cut observations weights (has_end point) without ≡ rest_cut observations weights (has_end point) without + weight_in observations weights (has_end point)
cut_with [] weights point with without is between = refl
cut_with (o ∷ observations) weights point with without is between =
    let w = λ (o : Observed). weight_of weights o.station o.target in
    let rest = cut_with observations weights point with without is (All-tail IsBetweenPoints o observations between) in
    let one = one_is weights point with without is o (All-head IsBetweenPoints o observations between).distinct in
    let a = sum_by-cons (λ (x : Observed). if crosses with x then w x else 0) o observations in
    let b = sum_by-cons (λ (x : Observed). if has_end point x then (if crosses without x then w x else 0) else 0) o observations in
    let c = sum_by-cons (λ (x : Observed). if has_end point x then 0 else (if crosses without x then w x else 0)) o observations in
    let d = sum_by-cons (λ (x : Observed). if has_end point x then w x else 0) o observations in
    omega (arith, rest, one, a, b, c, d)

-- ---- so the least that a set drains is the strength and the weight of its observations
module _ (survey : Survey) (point : List ℕ) (fixed : IsSome (height_of survey.benchmarks point)) (between : All IsBetweenPoints survey.observations) where
  joined : (List ℕ → Bool) → List ℕ → Bool
  joined inside name = bytes_eq name point || inside name

  taken : (List ℕ → Bool) → List ℕ → Bool
  taken inside name = inside name && not (bytes_eq name point)

  itself : bytes_eq point point ≡ true
  itself = (bytes_eq-Decides point point).1 refl

  not_it : (name : List ℕ) → name ≢ point → bytes_eq name point ≡ false
  not_it name differs = by (bytes_eq name point) refl
    where
      by : (b : Bool) → bytes_eq name point ≡ b → b ≡ false
      by true e = absurd (differs ((bytes_eq-Decides name point).0 e))
      by false e = refl

  joined_own : (inside : List ℕ → Bool) → IsFreeSet survey.benchmarks inside → IsOwnSet survey.benchmarks point (joined inside)
  unfolding joined
  joined_own inside free = record {
    holds = ap (λ (b : Bool). b || inside point) itself;
    others = λ name differs listed. ap (λ (b : Bool). b || inside name) (not_it name differs) ∙ free name listed;
  }

  joined_with : (inside : List ℕ → Bool) → IsFreeSet survey.benchmarks inside → IsWith point (joined inside) inside
  unfolding joined
  joined_with inside free = record { same = λ name. refl; off = free point fixed }

  taken_free : (inside : List ℕ → Bool) → IsOwnSet survey.benchmarks point inside → IsFreeSet survey.benchmarks (taken inside)
  unfolding taken
  taken_free inside is name listed = by (bytes_eq name point) refl
    where
      by : (b : Bool) → bytes_eq name point ≡ b → (inside name && not (bytes_eq name point)) ≡ false
      by true e = ends (inside name) ∙ refl
        where
          ends : (b : Bool) → (b && not (bytes_eq name point)) ≡ false
          ends true = ap not e
          ends false = refl
      by false e = ap (λ (b : Bool). b && not (bytes_eq name point)) (is.others name (λ same. false≢true (sym e ∙ (bytes_eq-Decides name point).1 same)) listed)

  taken_with : (inside : List ℕ → Bool) → IsOwnSet survey.benchmarks point inside → IsWith point inside (taken inside)
  unfolding taken
  taken_with inside is = record { same = λ name. by name (bytes_eq name point) (inside name) refl refl; off = off (inside point) }
    where
      off : (b : Bool) → (b && not (bytes_eq point point)) ≡ false
      off true = ap not itself
      off false = refl

      by : (name : List ℕ) (b c : Bool) → bytes_eq name point ≡ b → inside name ≡ c → inside name ≡ (bytes_eq name point || (inside name && not (bytes_eq name point)))
      by name true c e f = ap inside ((bytes_eq-Decides name point).0 e) ∙ is.holds ∙ sym (or_left (bytes_eq name point) (inside name && not (bytes_eq name point)) e)
      by name false true e f = f ∙ sym (or_right (bytes_eq name point) (inside name && not (bytes_eq name point)) (ap (λ (c : Bool). c && not (bytes_eq name point)) f ∙ ap not e))
      by name false false e f = f ∙ sym (ap (λ (b : Bool). b || (inside name && not (bytes_eq name point))) e ∙ ap (λ (c : Bool). c && not (bytes_eq name point)) f)

  pub drained_strength : (value weight : ℕ) → weight ≡ weight_in survey.observations survey.weights (has_end point) → IsLeastDrained survey (has_end point) value → IsBenchmarkStrength survey point (value - weight)
  drained_strength value weight weighs drained = record {
    reached = (joined inside, joined_own inside free, (let same = cut_with survey.observations survey.weights point (joined inside) inside (joined_with inside free) between in omega (arith, same, even, weighs)));
    least = λ own is.
        let low = drained.least (taken own) (taken_free own is) in
        let same = cut_with survey.observations survey.weights point own (taken own) (taken_with own is) between in
        omega (arith, low, same, weighs);
  }
    where
      inside : List ℕ → Bool
      inside = drained.reached.0

      free : IsFreeSet survey.benchmarks inside
      free = drained.reached.1

      even : value + own_cut survey.observations survey.weights (has_end point) inside ≡ rest_cut survey.observations survey.weights (has_end point) inside + (weight_in survey.observations survey.weights (has_end point) + weight_in survey.observations survey.weights (has_end point))
      even = drained.reached.2

  -- ---- none where there is no other, and none where nothing is observed
  pub strength_is : (count strength : ℕ) (found : Option ℕ) → count ≡ length survey.benchmarks → IsBenchmarkStrength survey point strength → found ≡ (if ltb 1 count then Some strength else None) → HasBenchmarkStrength survey point found
  strength_is count strength found counted is e = subst (HasBenchmarkStrength survey point) (sym e) (by (ltb 1 count) refl)
    where
      by : (b : Bool) → ltb 1 count ≡ b → HasBenchmarkStrength survey point (if b then Some strength else None)
      by true more = (omega (arith, ltb-true 1 count more, counted), is)
      by false few = omega (arith, ltb-false 1 count few, counted)

  pub effect_is : (sights : ℕ) (effect : Effect) (found : Option Effect) → sights ≡ count_by (has_end point) survey.observations → IsEffect survey (has_end point) effect → found ≡ (if ltb 0 sights then Some effect else None) → HasBenchmarkEffect survey point found
  effect_is sights effect found counted is e = subst (HasBenchmarkEffect survey point) (sym e) (by (ltb 0 sights) refl)
    where
      by : (b : Bool) → ltb 0 sights ≡ b → HasBenchmarkEffect survey point (if b then Some effect else None)
      by true some = (omega (arith, ltb-true 0 sights some, counted), is)
      by false none = omega (arith, ltb-false 0 sights none, counted)
