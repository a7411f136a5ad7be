-- One number of a right survey is wrong: what another number leaves, and how near to the right value what is proposed is.
use Rattle.std.proofs.Common.{◌≡◌, ◌≢◌, ℕ, zero, suc, ◌+◌, ◌*◌, ◌<◌, ◌≤◌, ℤ, pos, negsuc, ◌+ℤ◌, ◌*ℤ◌, neg_ℤ, List, unsigned_abs, refl, ap, sym, subst, arith, mul-le-mul_left}
use Rattle.std.proofs.lemmas.Int.{ints, unsigned_abs-mul}
use Rattle.th_network.specs.Circulation.{Shows}
use Rattle.th_network.specs.Networks.{Survey}
use Rattle.th_changes.specs.declared.numbers.Number.{Number}
use Rattle.th_changes.specs.Numbers.{touch, changed}
use Rattle.th_changes.specs.Freed.{Costs, IsFreed, IsProposed, Keeps, cost_of}
use Rattle.th_changes.specs.Flows.{Circulates, net, value}
use Rattle.th_changes.proofs.Tilts.{bounds_tilted, summed, summed-plus, summed-times}
use Rattle.th_changes.proofs.Changes.{lowered, cost_changed_twice, keeps_lowered}
use Rattle.th_changes.proofs.Sums.{sum_times, changed_by_none}
use Rattle.th_changes.proofs.Bounds.{bounds, no_net_times, shown_each}
use Rattle.th_explain.proofs.MistakeLemmas.{wrong_leaves_at_most}

-- ---- a number through which best flows have no net
pub explains_nothing : (survey : Survey) (number : Number) (flows : List ℤ) (heights : List ℕ → ℤ) → Circulates survey flows → net number survey flows ≡ pos 0 → Keeps survey heights → Shows survey.observations survey.weights flows heights → IsFreed survey number (cost_of survey heights)
explains_nothing survey number flows heights circulation none kept shown =
    let same = changed_by_none survey number in
    let is = shown_each survey number flows (pos 0) heights (record {
      kept = subst (λ s. Keeps s heights) (sym same) kept;
      circulation = circulation;
      no_net = none;
      shown = subst (λ s. Shows s.observations s.weights flows heights) (sym same) shown;
    }) in
    subst (λ s. IsFreed survey number (cost_of s heights)) same is.0

-- ---- what circulations say about two changes, and about none
bounds_twice : (right : Survey) (first second : Number) (x y : ℤ) (flows : List ℤ) (heights : List ℕ → ℤ) → Circulates right flows → Keeps (changed second y (changed first x right)) heights → unsigned_abs (value right flows +ℤ (x *ℤ net first right flows +ℤ y *ℤ net second right flows)) ≤ cost_of (changed second y (changed first x right)) heights
bounds_twice right first second x y flows heights circulation kept =
    let before = lowered first x (lowered second y heights) in
    let keeps = keeps_lowered right first x (lowered second y heights) (keeps_lowered (changed first x right) second y heights kept) in
    let most = bounds_tilted (λ o. x *ℤ touch first o +ℤ y *ℤ touch second o) right.observations right.benchmarks right.weights flows before circulation keeps in
    let parts = summed-plus (λ o. x *ℤ touch first o) (λ o. y *ℤ touch second o) right.observations flows in
    let a = summed-times x (touch first) right.observations flows in
    let b = summed-times y (touch second) right.observations flows in
    let all : summed (λ o. x *ℤ touch first o +ℤ y *ℤ touch second o) right.observations flows ≡ x *ℤ net first right flows +ℤ y *ℤ net second right flows = omega (arith, ints) in
    let times = ap (λ z. unsigned_abs (value right flows +ℤ z)) all in
    let same = cost_changed_twice right first second x y heights in
    omega arith

bounds_right : (right : Survey) (number : Number) (flows : List ℤ) (truth : List ℕ → ℤ) → Circulates right flows → Keeps right truth → unsigned_abs (value right flows) ≤ cost_of right truth
bounds_right right number flows truth circulation kept =
    let same = changed_by_none right number in
    let most = bounds right number flows (pos 0) truth circulation (subst (λ s. Keeps s truth) (sym same) kept) in
    let cost = ap (λ s. cost_of s truth) same in
    let plain : value right flows +ℤ pos 0 *ℤ net number right flows ≡ value right flows = omega (arith, ints) in
    let size = ap unsigned_abs plain in
    omega arith

-- ---- what another number leaves
apart : (v a b : ℤ) (freed cost : ℕ) → unsigned_abs (v +ℤ (a +ℤ b)) ≤ freed → unsigned_abs v ≤ cost → b ≡ pos 0 → unsigned_abs a ≤ freed + cost
apart v a b freed cost left right none = omega (arith, ints)

pub another_leaves : (right : Survey) (number other : Number) (wrong : ℤ) (truth : List ℕ → ℤ) (flows : List ℤ) (freed : ℕ) → Circulates right flows → net other right flows ≡ pos 0 → Keeps right truth → IsFreed (changed number wrong right) other freed → unsigned_abs wrong * unsigned_abs (net number right flows) ≤ freed + cost_of right truth
another_leaves right number other wrong truth flows freed circulation none kept is_freed = by is_freed.reached
  where
    by : ((y : ℤ) × Costs (changed number wrong right) other y freed) → unsigned_abs wrong * unsigned_abs (net number right flows) ≤ freed + cost_of right truth
    by (y, (heights, keeps, same)) =
        let most = bounds_twice right number other wrong y flows heights circulation keeps in
        let less = bounds_right right number flows truth circulation kept in
        let zero = no_net_times y (net other right flows) none in
        let size = apart (value right flows) (wrong *ℤ net number right flows) (y *ℤ net other right flows) freed (cost_of right truth) (omega arith) less zero in
        let product = unsigned_abs-mul wrong (net number right flows) in
        omega arith

pub wrong_leads : (right : Survey) (number other : Number) (wrong : ℤ) (truth : List ℕ → ℤ) (flows : List ℤ) (freed left : ℕ) → Circulates right flows → net other right flows ≡ pos 0 → Keeps right truth → 2 * cost_of right truth < unsigned_abs wrong * unsigned_abs (net number right flows) → IsFreed (changed number wrong right) number freed → IsFreed (changed number wrong right) other left → freed < left
wrong_leads right number other wrong truth flows freed left circulation none kept large is_freed is_left =
    let much = another_leaves right number other wrong truth flows left circulation none kept is_left in
    let little = wrong_leaves_at_most right number wrong truth freed is_freed kept in
    omega arith

-- ---- how near what is proposed is
pub near : (right : Survey) (number : Number) (wrong x : ℤ) (truth : List ℕ → ℤ) (flows : List ℤ) → Circulates right flows → Keeps right truth → IsProposed (changed number wrong right) number x → unsigned_abs (wrong +ℤ x) * unsigned_abs (net number right flows) ≤ 2 * cost_of right truth
near right number wrong x truth flows circulation kept proposed = by proposed.reached
  where
    by : Costs (changed number wrong right) number x proposed.freed → unsigned_abs (wrong +ℤ x) * unsigned_abs (net number right flows) ≤ 2 * cost_of right truth
    by (heights, keeps, same) =
        let most = bounds_twice right number number wrong x flows heights circulation keeps in
        let less = bounds_right right number flows truth circulation kept in
        let little = wrong_leaves_at_most right number wrong truth proposed.freed proposed.is_freed kept in
        let sum = ap (λ z. unsigned_abs (value right flows +ℤ z)) (sum_times wrong x (net number right flows)) in
        let size = apart (value right flows) ((wrong +ℤ x) *ℤ net number right flows) (pos 0) proposed.freed (cost_of right truth) (no_more (value right flows) ((wrong +ℤ x) *ℤ net number right flows) proposed.freed (omega arith)) less refl in
        let product = unsigned_abs-mul (wrong +ℤ x) (net number right flows) in
        omega arith
      where
        no_more : (v a : ℤ) (n : ℕ) → unsigned_abs (v +ℤ a) ≤ n → unsigned_abs (v +ℤ (a +ℤ pos 0)) ≤ n
        no_more v a n most = omega (arith, ints)

no_factor : (a b : ℕ) → a * b ≤ 0 → 0 < b → a ≡ 0
no_factor zero b none some = refl
no_factor (suc a) b none some = absurd (omega (arith, mul-le-mul_left (suc a) some))

some_size : (n : ℤ) → n ≢ pos 0 → 0 < unsigned_abs n
some_size (pos zero) other = absurd (other refl)
some_size (pos (suc n)) other = omega (arith, ints)
some_size (negsuc n) other = omega (arith, ints)

pub exact : (right : Survey) (number : Number) (wrong x : ℤ) (truth : List ℕ → ℤ) (flows : List ℤ) → Circulates right flows → Keeps right truth → cost_of right truth ≡ 0 → net number right flows ≢ pos 0 → IsProposed (changed number wrong right) number x → x ≡ neg_ℤ wrong
exact right number wrong x truth flows circulation kept fits some proposed =
    let distance = near right number wrong x truth flows circulation kept proposed in
    let none = no_factor (unsigned_abs (wrong +ℤ x)) (unsigned_abs (net number right flows)) (omega arith) (some_size (net number right flows) some) in
    omega (arith, ints)
