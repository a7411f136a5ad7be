-- A mistake in one observation: by how much its residual may differ from its error, by its control.
use Rattle.std.proofs.Common.{◌≡◌, inl, inr, ℕ, zero, suc, Bool, true, false, ◌+◌, ◌-◌, ◌*◌, ◌<◌, ◌≤◌, ℤ, pos, negsuc, ◌-ℤ◌, List, get_or, if◌then◌else◌, unsigned_abs, refl, ap, ◌∙◌, mul-le-mul_left, arith}
use Rattle.std.proofs.Math.Nat.{mul-sub}
use Rattle.std.proofs.lemmas.Bool.{cases_lt}
use Rattle.std.proofs.lemmas.Int.{ints}
use Rattle.th_observations.specs.Observed.{Observed}
use Rattle.th_tables.specs.Rows.{WeightRows, weight_of}
use Rattle.th_network.specs.Heights.{IsHeights, Least, residual}
use Rattle.th_network.specs.Networks.{Survey}
use Rattle.th_reliability.specs.Costs.{cost_outside}
use Rattle.th_reliability.specs.Singles.{IsOnly}
use Rattle.th_reliability.specs.Cuts.{IsControl, crosses, cut}
use Rattle.th_reliability.proofs.SumLemmas.{sums-le, sums-plus, sums-times}
use Rattle.th_reliability.proofs.LayerLemmas.{clamped, clamped_low, cut_off, layer, layer_along, spread, spread_more}
use Rattle.th_reliability.proofs.LoweringLemmas.{layer_free, off}
use Rattle.th_reliability.proofs.GroupTieLemmas.{own_spread}
use Rattle.th_reliability.proofs.SingleLemmas.{listed, one_term}

-- ---- what a map changes along an observation, above 0 and below
two_sides : (n : ℕ) (x y x' y' : ℤ) → x' ≡ pos 0 -ℤ x → y' ≡ pos 0 -ℤ y → (unsigned_abs (clamped n y -ℤ clamped n x) + unsigned_abs (clamped n y' -ℤ clamped n x')) ≤ unsigned_abs (y -ℤ x)
two_sides n (pos a) (pos b) (pos c) (pos d) e f = omega (arith, ints)
two_sides n (pos a) (pos b) (pos c) (negsuc d) e f = omega (arith, ints)
two_sides n (pos a) (pos b) (negsuc c) (pos d) e f = omega (arith, ints)
two_sides n (pos a) (pos b) (negsuc c) (negsuc d) e f = omega (arith, ints)
two_sides n (pos a) (negsuc b) (pos c) (pos d) e f = omega (arith, ints)
two_sides n (pos a) (negsuc b) (pos c) (negsuc d) e f = omega (arith, ints)
two_sides n (pos a) (negsuc b) (negsuc c) (pos d) e f = omega (arith, ints)
two_sides n (pos a) (negsuc b) (negsuc c) (negsuc d) e f = omega (arith, ints)
two_sides n (negsuc a) (pos b) (pos c) (pos d) e f = omega (arith, ints)
two_sides n (negsuc a) (pos b) (pos c) (negsuc d) e f = omega (arith, ints)
two_sides n (negsuc a) (pos b) (negsuc c) (pos d) e f = omega (arith, ints)
two_sides n (negsuc a) (pos b) (negsuc c) (negsuc d) e f = omega (arith, ints)
two_sides n (negsuc a) (negsuc b) (pos c) (pos d) e f = omega (arith, ints)
two_sides n (negsuc a) (negsuc b) (pos c) (negsuc d) e f = omega (arith, ints)
two_sides n (negsuc a) (negsuc b) (negsuc c) (pos d) e f = omega (arith, ints)
two_sides n (negsuc a) (negsuc b) (negsuc c) (negsuc d) e f = omega (arith, ints)

-- all of it, where the size is large enough
all_sides : (n : ℕ) (x y x' y' : ℤ) → x' ≡ pos 0 -ℤ x → y' ≡ pos 0 -ℤ y → unsigned_abs x + unsigned_abs y ≤ n → unsigned_abs (y -ℤ x) ≤ (unsigned_abs (clamped n y -ℤ clamped n x) + unsigned_abs (clamped n y' -ℤ clamped n x'))
all_sides n (pos a) (pos b) (pos c) (pos d) e f most = omega (arith, ints)
all_sides n (pos a) (pos b) (pos c) (negsuc d) e f most = omega (arith, ints)
all_sides n (pos a) (pos b) (negsuc c) (pos d) e f most = omega (arith, ints)
all_sides n (pos a) (pos b) (negsuc c) (negsuc d) e f most = omega (arith, ints)
all_sides n (pos a) (negsuc b) (pos c) (pos d) e f most = omega (arith, ints)
all_sides n (pos a) (negsuc b) (pos c) (negsuc d) e f most = omega (arith, ints)
all_sides n (pos a) (negsuc b) (negsuc c) (pos d) e f most = omega (arith, ints)
all_sides n (pos a) (negsuc b) (negsuc c) (negsuc d) e f most = omega (arith, ints)
all_sides n (negsuc a) (pos b) (pos c) (pos d) e f most = omega (arith, ints)
all_sides n (negsuc a) (pos b) (pos c) (negsuc d) e f most = omega (arith, ints)
all_sides n (negsuc a) (pos b) (negsuc c) (pos d) e f most = omega (arith, ints)
all_sides n (negsuc a) (pos b) (negsuc c) (negsuc d) e f most = omega (arith, ints)
all_sides n (negsuc a) (negsuc b) (pos c) (pos d) e f most = omega (arith, ints)
all_sides n (negsuc a) (negsuc b) (pos c) (negsuc d) e f most = omega (arith, ints)
all_sides n (negsuc a) (negsuc b) (negsuc c) (pos d) e f most = omega (arith, ints)
all_sides n (negsuc a) (negsuc b) (negsuc c) (negsuc d) e f most = omega (arith, ints)

weighed : (w a b c : ℕ) → a + b ≤ c → (w * a + w * b) ≤ w * c
weighed w a b c less = let scaled = mul-le-mul_left w less in omega arith

both_spreads : (observations : List Observed) (weights : WeightRows) (n : ℕ) (heights truth : List ℕ → ℤ) → (spread observations weights (cut_off n (off true heights truth)) + spread observations weights (cut_off n (off false heights truth))) ≤ spread observations weights (off true heights truth)
both_spreads observations weights n heights truth =
    let w = λ (o : Observed). weight_of weights o.station o.target in
    let u = off true heights truth in
    let d = off false heights truth in
    let above = λ (o : Observed). w o * unsigned_abs (cut_off n u o.target -ℤ cut_off n u o.station) in
    let below = λ (o : Observed). w o * unsigned_abs (cut_off n d o.target -ℤ cut_off n d o.station) in
    let less = sums-le (λ o. above o + below o) (λ o. w o * unsigned_abs (u o.target -ℤ u o.station))
    (λ o. weighed (w o) (unsigned_abs (cut_off n u o.target -ℤ cut_off n u o.station)) (unsigned_abs (cut_off n d o.target -ℤ cut_off n d o.station)) (unsigned_abs (u o.target -ℤ u o.station)) (two_sides n (u o.station) (u o.target) (d o.station) (d o.target) refl refl)) observations in
    let split = sums-plus above below observations in
    omega arith

-- ---- level by level: each set that the observation crosses costs so much
no_change : (n value : ℕ) → n ≤ 0 → n * value ≡ 0
no_change zero value none = omega arith
no_change (suc n) value none = absurd (omega (arith, none))

more_levels : (n m value : ℕ) → n ≡ m + 1 → n * value ≡ m * value + value
more_levels n m value same = ap (λ k. k * value) same ∙ omega arith

same_levels : (n m value : ℕ) → n ≡ m + 0 → n * value ≡ m * value
same_levels n m value same = ap (λ k. k * value) same ∙ omega arith

crossing_levels : (observations : List Observed) (weights : WeightRows) (o : Observed) (u : List ℕ → ℤ) (value size : ℕ) → ((below : ℕ) → crosses (layer below u) o ≡ true → value ≤ cut observations weights (layer below u)) → unsigned_abs (cut_off size u o.target -ℤ cut_off size u o.station) * value ≤ spread observations weights (cut_off size u)
crossing_levels observations weights o u value zero each =
    let none = no_change (unsigned_abs (cut_off 0 u o.target -ℤ cut_off 0 u o.station)) value (clamped_low 0 (u o.station) (u o.target)) in
    omega arith
crossing_levels observations weights o u value (suc size) each = by (crosses (layer size u) o) refl (crossing_levels observations weights o u value size each)
  where
    along : unsigned_abs (cut_off (suc size) u o.target -ℤ cut_off (suc size) u o.station) ≡ unsigned_abs (cut_off size u o.target -ℤ cut_off size u o.station) + (if crosses (layer size u) o then 1 else 0)
    along = layer_along size (u o.station) (u o.target)

    by : (b : Bool) → crosses (layer size u) o ≡ b → unsigned_abs (cut_off size u o.target -ℤ cut_off size u o.station) * value ≤ spread observations weights (cut_off size u) → unsigned_abs (cut_off (suc size) u o.target -ℤ cut_off (suc size) u o.station) * value ≤ spread observations weights (cut_off (suc size) u)
    by true e rest =
        let more = spread_more observations weights size u in
        let one = each size e in
        let longer = more_levels (unsigned_abs (cut_off (suc size) u o.target -ℤ cut_off (suc size) u o.station)) (unsigned_abs (cut_off size u o.target -ℤ cut_off size u o.station)) value (along ∙ ap (λ b. unsigned_abs (cut_off size u o.target -ℤ cut_off size u o.station) + (if b then 1 else 0)) e) in
        omega arith
    by false e rest =
        let more = spread_more observations weights size u in
        let longer = same_levels (unsigned_abs (cut_off (suc size) u o.target -ℤ cut_off (suc size) u o.station)) (unsigned_abs (cut_off size u o.target -ℤ cut_off size u o.station)) value (along ∙ ap (λ b. unsigned_abs (cut_off size u o.target -ℤ cut_off size u o.station) + (if b then 1 else 0)) e) in
        omega arith

-- ---- what least heights change along all observations
one_changed : (d hs ht gs gt : ℤ) → (unsigned_abs ((ht -ℤ gt) -ℤ (hs -ℤ gs)) + unsigned_abs (d -ℤ (gt -ℤ gs))) ≤ (unsigned_abs (d -ℤ (ht -ℤ hs)) + 2 * unsigned_abs ((ht -ℤ gt) -ℤ (hs -ℤ gs)))
one_changed d hs ht gs gt = omega (arith, ints)

other_changed : (d hs ht gs gt : ℤ) → (unsigned_abs ((ht -ℤ gt) -ℤ (hs -ℤ gs)) + unsigned_abs (d -ℤ (gt -ℤ gs))) ≤ (unsigned_abs (d -ℤ (ht -ℤ hs)) + 2 * unsigned_abs (d -ℤ (gt -ℤ gs)))
other_changed d hs ht gs gt = omega (arith, ints)

changed_by : (w e t h : ℕ) (b : Bool) → (e + t) ≤ (h + 2 * e) → (e + t) ≤ (h + 2 * t) → (w * e + w * t) ≤ (w * h + 2 * ((if b then w * e else 0) + (if b then 0 else w * t)))
changed_by w e t h true own other = let scaled = mul-le-mul_left w own in omega arith
changed_by w e t h false own other = let scaled = mul-le-mul_left w other in omega arith

spread_bound : (survey : Survey) (group : Observed → Bool) (truth heights : List ℕ → ℤ) → IsHeights survey.benchmarks truth → Least survey.observations survey.benchmarks survey.weights heights → spread survey.observations survey.weights (off true heights truth) ≤ 2 * own_spread survey.observations survey.weights group (off true heights truth) + 2 * cost_outside survey.observations survey.weights group truth
spread_bound survey group truth heights kept best =
    let w = λ (o : Observed). weight_of survey.weights o.station o.target in
    let u = off true heights truth in
    let e = λ (o : Observed). unsigned_abs (u o.target -ℤ u o.station) in
    let t = λ (o : Observed). unsigned_abs (residual o truth) in
    let h = λ (o : Observed). unsigned_abs (residual o heights) in
    let own = λ (o : Observed). if group o then w o * e o else 0 in
    let others = λ (o : Observed). if group o then 0 else w o * t o in
    let less = sums-le (λ o. w o * e o + w o * t o) (λ o. w o * h o + 2 * (own o + others o))
    (λ o. changed_by (w o) (e o) (t o) (h o) (group o) (one_changed o.difference (heights o.station) (heights o.target) (truth o.station) (truth o.target)) (other_changed o.difference (heights o.station) (heights o.target) (truth o.station) (truth o.target))) survey.observations in
    let left = sums-plus (λ o. w o * e o) (λ o. w o * t o) survey.observations in
    let right = sums-plus (λ o. w o * h o) (λ o. 2 * (own o + others o)) survey.observations in
    let twice = sums-times 2 (λ o. own o + others o) survey.observations in
    let parts = sums-plus own others survey.observations in
    let least = best.least truth kept in
    omega arith

-- ---- by how much the residual of any observation differs from its error
turned : (d hs ht gs gt : ℤ) → unsigned_abs ((d -ℤ (ht -ℤ hs)) -ℤ (d -ℤ (gt -ℤ gs))) ≡ unsigned_abs ((ht -ℤ gt) -ℤ (hs -ℤ gs))
turned d hs ht gs gt = omega (arith, ints)

all_levels : (change up down value above below most : ℕ) → change ≤ up + down → up * value ≤ above → down * value ≤ below → above + below ≤ most → change * value ≤ most
all_levels change up down value above below most whole first second sum = let scaled = mul-le-mul_left value whole in omega arith

changed_along : (survey : Survey) (o : Observed) (control : ℕ) (truth heights : List ℕ → ℤ) → IsControl survey.observations survey.benchmarks survey.weights o control → IsHeights survey.benchmarks truth → Least survey.observations survey.benchmarks survey.weights heights → unsigned_abs (residual o heights -ℤ residual o truth) * (control + weight_of survey.weights o.station o.target) ≤ spread survey.observations survey.weights (off true heights truth)
changed_along survey o control truth heights is_control kept best =
    let u = off true heights truth in
    let d = off false heights truth in
    let n = unsigned_abs (u o.station) + unsigned_abs (u o.target) in
    let value = control + weight_of survey.weights o.station o.target in
    let above = crossing_levels survey.observations survey.weights o u value n (λ below across. is_control.least (layer below u) (layer_free survey.benchmarks true below heights truth best.kept kept) across) in
    let under = crossing_levels survey.observations survey.weights o d value n (λ below across. is_control.least (layer below d) (layer_free survey.benchmarks false below heights truth best.kept kept) across) in
    let whole = all_sides n (u o.station) (u o.target) (d o.station) (d o.target) refl refl (omega arith) in
    let size = all_levels (unsigned_abs (u o.target -ℤ u o.station)) (unsigned_abs (cut_off n u o.target -ℤ cut_off n u o.station)) (unsigned_abs (cut_off n d o.target -ℤ cut_off n d o.station)) value
    (spread survey.observations survey.weights (cut_off n u)) (spread survey.observations survey.weights (cut_off n d)) (spread survey.observations survey.weights u) whole above under (both_spreads survey.observations survey.weights n heights truth) in
    let same : unsigned_abs (residual o heights -ℤ residual o truth) ≡ unsigned_abs (u o.target -ℤ u o.station) = turned o.difference (heights o.station) (heights o.target) (truth o.station) (truth o.target) in
    let scaled = ap (λ k. k * value) same in
    omega arith

-- ---- one observation alone errs
module _ (survey : Survey) (group : Observed → Bool) (o : Observed) (only : IsOnly survey.observations group o) where
  own_spread_is : (z : List ℕ → ℤ) → own_spread survey.observations survey.weights group z ≡ weight_of survey.weights o.station o.target * unsigned_abs (z o.target -ℤ z o.station)
  own_spread_is z =
      let term = λ (x : Observed). if group x then weight_of survey.weights x.station x.target * unsigned_abs (z x.target -ℤ z x.station) else 0 in
      let at = listed survey group o only in
      let sum : own_spread survey.observations survey.weights group z ≡ term (get_or survey.observations only.place o) = one_term term survey.observations only.place o at.1 (λ j d differs less. ap (λ (b : Bool). if b then weight_of survey.weights (get_or survey.observations j d).station (get_or survey.observations j d).target * unsigned_abs (z (get_or survey.observations j d).target -ℤ z (get_or survey.observations j d).station) else 0) (only.others j d differs less)) in
      sum ∙ ap term at.2 ∙ ap (λ (b : Bool). if b then weight_of survey.weights o.station o.target * unsigned_abs (z o.target -ℤ z o.station) else 0) only.is

  -- what least heights change along all observations, where this one alone errs: its own change counts twice
  own_spread_bound : (truth heights : List ℕ → ℤ) → IsHeights survey.benchmarks truth → Least survey.observations survey.benchmarks survey.weights heights → spread survey.observations survey.weights (off true heights truth) ≤ 2 * (weight_of survey.weights o.station o.target * unsigned_abs (residual o heights -ℤ residual o truth)) + 2 * cost_outside survey.observations survey.weights group truth
  own_spread_bound truth heights kept best =
      let w = weight_of survey.weights o.station o.target in
      let most = spread_bound survey group truth heights kept best in
      let mine = own_spread_is (off true heights truth) in
      let same = ap (λ k. w * k) (turned o.difference (heights o.station) (heights o.target) (truth o.station) (truth o.target)) in
      omega arith

  pub residual_near : (truth heights : List ℕ → ℤ) (control : ℕ) → IsControl survey.observations survey.benchmarks survey.weights o control → IsHeights survey.benchmarks truth → Least survey.observations survey.benchmarks survey.weights heights → unsigned_abs (residual o heights -ℤ residual o truth) * (control - weight_of survey.weights o.station o.target) ≤ 2 * cost_outside survey.observations survey.weights group truth
  residual_near truth heights control is_control kept best =
      let w = weight_of survey.weights o.station o.target in
      by (unsigned_abs (residual o heights -ℤ residual o truth)) control w (spread survey.observations survey.weights (off true heights truth)) (cost_outside survey.observations survey.weights group truth)
      (changed_along survey o control truth heights is_control kept best) (own_spread_bound truth heights kept best)
    where
      by : (change control w spread out : ℕ) → change * (control + w) ≤ spread → spread ≤ (2 * (w * change) + 2 * out) → change * (control - w) ≤ 2 * out
      by change control w spread out least most = let parts = mul-sub change control w in omega arith

  -- ---- a wrong sight is marked
  pub large_is_marked : (truth heights : List ℕ → ℤ) (control limit : ℕ) → IsControl survey.observations survey.benchmarks survey.weights o control → IsHeights survey.benchmarks truth → Least survey.observations survey.benchmarks survey.weights heights
      → limit * (control - weight_of survey.weights o.station o.target) + 2 * cost_outside survey.observations survey.weights group truth < unsigned_abs (residual o truth) * (control - weight_of survey.weights o.station o.target) → limit < unsigned_abs (residual o heights)
  large_is_marked truth heights control limit is_control kept best large =
      by (residual o heights) (residual o truth) (control - weight_of survey.weights o.station o.target) (2 * cost_outside survey.observations survey.weights group truth) (residual_near truth heights control is_control kept best) large
    where
      split : (r e : ℤ) → unsigned_abs e ≤ unsigned_abs r + unsigned_abs (r -ℤ e)
      split r e = omega (arith, ints)

      by : (r e : ℤ) (d most : ℕ) → unsigned_abs (r -ℤ e) * d ≤ most → limit * d + most < unsigned_abs e * d → limit < unsigned_abs r
      by r e d most near far = elim (cases_lt limit (unsigned_abs r)) [
        | inl less ↦ less
        | inr small ↦
            let sum = mul-le-mul_left d (split r e) in
            let scaled = mul-le-mul_left d small in
            absurd (omega arith)
      ]

  -- ---- a right sight is not
  pub right_near : (truth heights : List ℕ → ℤ) (control : ℕ) (right : Observed) (own : ℕ) → IsControl survey.observations survey.benchmarks survey.weights o control → IsControl survey.observations survey.benchmarks survey.weights right own
      → IsHeights survey.benchmarks truth → Least survey.observations survey.benchmarks survey.weights heights
      → unsigned_abs (residual right heights -ℤ residual right truth) * ((own + weight_of survey.weights right.station right.target) * (control - weight_of survey.weights o.station o.target))
      ≤ 2 * (cost_outside survey.observations survey.weights group truth * (control + weight_of survey.weights o.station o.target))
  right_near truth heights control right own is_control is_own kept best =
      by (unsigned_abs (residual right heights -ℤ residual right truth)) (own + weight_of survey.weights right.station right.target) (unsigned_abs (residual o heights -ℤ residual o truth)) control (weight_of survey.weights o.station o.target)
      (spread survey.observations survey.weights (off true heights truth)) (cost_outside survey.observations survey.weights group truth)
      (changed_along survey right own truth heights is_own kept best) (own_spread_bound truth heights kept best) (residual_near truth heights control is_control kept best)
    where
      with_margin : (a v b d w spread out : ℕ) → a * v ≤ spread → spread ≤ (2 * (w * b) + 2 * out) → b * d ≤ 2 * out → a * (v * d) ≤ 2 * (out * (d + w + w))
      with_margin a v b d w spread out least most near =
          let first = mul-le-mul_left d least in
          let second = mul-le-mul_left d most in
          let third = mul-le-mul_left (2 * w) near in
          omega arith

      no_margin : (a v d n : ℕ) → d ≡ 0 → a * (v * d) ≤ n
      no_margin a v zero n none = omega arith
      no_margin a v (suc d) n none = absurd (omega (arith, none))

      by : (a v b c w spread out : ℕ) → a * v ≤ spread → spread ≤ (2 * (w * b) + 2 * out) → b * (c - w) ≤ 2 * out → a * (v * (c - w)) ≤ 2 * (out * (c + w))
      by a v b c w spread out least most near = elim (cases_lt w c) [
        | inl less ↦
            let sum = with_margin a v b (c - w) w spread out least most near in
            let all : c - w + w + w ≡ c + w = omega (arith, less) in
            let same = ap (λ k. out * k) all in
            omega arith
        | inr more ↦ no_margin a v (c - w) (2 * (out * (c + w))) (omega (arith, more))
      ]

  pub right_is_unmarked : (truth heights : List ℕ → ℤ) (control limit : ℕ) (right : Observed) (own : ℕ) → IsControl survey.observations survey.benchmarks survey.weights o control → IsControl survey.observations survey.benchmarks survey.weights right own
      → IsHeights survey.benchmarks truth → Least survey.observations survey.benchmarks survey.weights heights → weight_of survey.weights o.station o.target < control → 0 < own + weight_of survey.weights right.station right.target → unsigned_abs (residual right truth) ≤ limit
      → 2 * (cost_outside survey.observations survey.weights group truth * (control + weight_of survey.weights o.station o.target))
      ≤ (limit - unsigned_abs (residual right truth)) * ((own + weight_of survey.weights right.station right.target) * (control - weight_of survey.weights o.station o.target)) → unsigned_abs (residual right heights) ≤ limit
  right_is_unmarked truth heights control limit right own is_control is_own kept best less some small enough =
      by (residual right heights) (residual right truth) ((own + weight_of survey.weights right.station right.target) * (control - weight_of survey.weights o.station o.target))
      (positive (own + weight_of survey.weights right.station right.target) (control - weight_of survey.weights o.station o.target) some (omega (arith, less))) small (omega (arith, right_near truth heights control right own is_control is_own kept best, enough))
    where
      positive : (a b : ℕ) → 0 < a → 0 < b → 0 < a * b
      positive (suc a) (suc b) first second = omega arith
      positive zero b first second = absurd (omega (arith, first))
      positive (suc a) zero first second = absurd (omega (arith, second))

      join : (r e : ℤ) → unsigned_abs r ≤ unsigned_abs e + unsigned_abs (r -ℤ e)
      join r e = omega (arith, ints)

      cancelled : (z m k : ℕ) → 0 < k → z * k ≤ m * k → z ≤ m
      cancelled z m k some most = elim (cases_lt m z) [
        | inl less ↦
            let more : m + 1 ≤ z = omega (arith, less) in
            let scaled = mul-le-mul_left k more in
            absurd (omega arith)
        | inr at ↦ at
      ]

      by : (r e : ℤ) (k : ℕ) → 0 < k → unsigned_abs e ≤ limit → unsigned_abs (r -ℤ e) * k ≤ (limit - unsigned_abs e) * k → unsigned_abs r ≤ limit
      by r e k some small most =
          let near = cancelled (unsigned_abs (r -ℤ e)) (limit - unsigned_abs e) k some most in
          let sum = join r e in
          omega arith
