-- Circulations bound what a survey costs, and show what is left if a number is freed.
use Rattle.std.proofs.Common.{◌≡◌, ℕ, suc, ◌*◌, ◌≤◌, ℤ, pos, negsuc, ◌+ℤ◌, ◌-ℤ◌, ◌*ℤ◌, ◌≤ℤ◌, ◌<ℤ◌, List, [], ◌∷◌, map, unsigned_abs, refl, ap, ◌∙◌, arith, mul-le-mul_right}
use Rattle.std.proofs.lemmas.Int.{ints}
use Rattle.std.proofs.lemmas.List.Sums.{sum_by-cons}
use Rattle.std.proofs.Math.IntN.{*ℤ_comm, *ℤ-zero}
use Rattle.th_observations.specs.Observed.{Observed}
use Rattle.th_tables.specs.Rows.{WeightRows, weight_of}
use Rattle.th_network.specs.Circulation.{Shows}
use Rattle.th_network.specs.Heights.{residual, cost}
use Rattle.th_network.specs.Networks.{Survey}
use Rattle.th_network.proofs.Products.{times-minus}
use Rattle.th_changes.specs.declared.numbers.Number.{Number}
use Rattle.th_changes.specs.Numbers.{touch, changed_observation, changed}
use Rattle.th_changes.specs.Freed.{Costs, IsFreed, IsProposed, Keeps, cost_of}
use Rattle.th_changes.specs.Flows.{Circulates, ShowsFreed, net, value}
use Rattle.th_changes.proofs.Tilts.{pushed, pushed_value, bounds_tilted, summed-times}
use Rattle.th_changes.proofs.Changes.{lowered, residual_changed, cost_changed, keeps_lowered}

pub bounds : (survey : Survey) (number : Number) (flows : List ℤ) (x : ℤ) (heights : List ℕ → ℤ) → Circulates survey flows → Keeps (changed number x survey) heights → unsigned_abs (value survey flows +ℤ x *ℤ net number survey flows) ≤ cost_of (changed number x survey) heights
bounds survey number flows x heights circulation kept =
    let most = bounds_tilted (λ o. x *ℤ touch number o) survey.observations survey.benchmarks survey.weights flows (lowered number x heights) circulation (keeps_lowered survey number x heights kept) in
    let times = ap (λ z. unsigned_abs (value survey flows +ℤ z)) (summed-times x (touch number) survey.observations flows) in
    let same = cost_changed survey number x heights in
    omega arith

-- without net
pub no_net_times : (x n : ℤ) → n ≡ pos 0 → x *ℤ n ≡ pos 0
no_net_times x n none = ap (λ z. x *ℤ z) none ∙ *ℤ-zero x

pub bounds_without_net : (survey : Survey) (number : Number) (flows : List ℤ) (x : ℤ) (heights : List ℕ → ℤ) → Circulates survey flows → net number survey flows ≡ pos 0 → Keeps (changed number x survey) heights → unsigned_abs (value survey flows) ≤ cost_of (changed number x survey) heights
bounds_without_net survey number flows x heights circulation none kept =
    let most = bounds survey number flows x heights circulation kept in
    let same = no_net_times x (net number survey flows) none in
    let plain : value survey flows +ℤ x *ℤ net number survey flows ≡ value survey flows = omega (arith, ints) in
    let size = ap unsigned_abs plain in
    omega arith

pub bounds_costs : (survey : Survey) (number : Number) (flows : List ℤ) (x : ℤ) (total : ℕ) → Circulates survey flows → Costs survey number x total → unsigned_abs (value survey flows +ℤ x *ℤ net number survey flows) ≤ total
bounds_costs survey number flows x total circulation (heights, kept, same) =
    let most = bounds survey number flows x heights circulation kept in
    omega arith

pub bounds_freed : (survey : Survey) (number : Number) (flows : List ℤ) (freed : ℕ) → Circulates survey flows → net number survey flows ≡ pos 0 → IsFreed survey number freed → unsigned_abs (value survey flows) ≤ freed
bounds_freed survey number flows freed circulation none is_freed = by is_freed.reached
  where
    by : ((x : ℤ) × Costs survey number x freed) → unsigned_abs (value survey flows) ≤ freed
    by (x, (heights, kept, same)) =
        let most = bounds_without_net survey number flows x heights circulation none kept in
        omega arith

-- equal values
pub shown_by_value : (survey : Survey) (number : Number) (flows : List ℤ) (x : ℤ) (heights : List ℕ → ℤ) → Circulates survey flows → net number survey flows ≡ pos 0 → Keeps (changed number x survey) heights → value survey flows ≡ pos (cost_of (changed number x survey) heights) → IsFreed survey number (cost_of (changed number x survey) heights)
shown_by_value survey number flows x heights circulation none kept equal = record {
  reached = (x, (heights, kept, refl));
  least = λ y others others_kept.
      let most = bounds_without_net survey number flows y others circulation none others_kept in
      let size : unsigned_abs (value survey flows) ≡ cost_of (changed number x survey) heights = ap unsigned_abs equal in
      omega arith;
}

-- one observation at a time
pushed_shown : (number : Number) (x : ℤ) (weights : WeightRows) (heights : List ℕ → ℤ) (observations : List Observed) (flows : List ℤ) → Shows (map (changed_observation number x) observations) weights flows heights → pushed (λ o. x *ℤ touch number o) (lowered number x heights) observations flows ≡ pos (cost (map (changed_observation number x) observations) weights heights)
pushed_shown number x weights heights [] [] shown = refl
pushed_shown number x weights heights [] (flow ∷ flows) shown = absurd shown
pushed_shown number x weights heights (o ∷ observations) [] shown = absurd shown
pushed_shown number x weights heights (o ∷ observations) (flow ∷ flows) shown =
    let w = weight_of weights o.station o.target in
    let one = ap (λ r. flow *ℤ r) (residual_changed number x o heights) in
    let slack = shown.0 in
    let rest = pushed_shown number x weights heights observations flows shown.1 in
    let sum = sum_by-cons (λ o. weight_of weights o.station o.target * unsigned_abs (residual o heights)) (changed_observation number x o) (map (changed_observation number x) observations) in
    omega (arith, ints)

pub shown_value : (survey : Survey) (number : Number) (flows : List ℤ) (x : ℤ) (heights : List ℕ → ℤ) → Circulates survey flows → Keeps (changed number x survey) heights → Shows (changed number x survey).observations survey.weights flows heights → value survey flows +ℤ x *ℤ net number survey flows ≡ pos (cost_of (changed number x survey) heights)
shown_value survey number flows x heights circulation kept shown =
    let all = pushed_shown number x survey.weights heights survey.observations flows shown in
    let parts = pushed_value (λ o. x *ℤ touch number o) survey.observations survey.benchmarks survey.weights flows (lowered number x heights) circulation (keeps_lowered survey number x heights kept) in
    let times = summed-times x (touch number) survey.observations flows in
    omega (arith, ints)

pub shown_each : (survey : Survey) (number : Number) (flows : List ℤ) (x : ℤ) (heights : List ℕ → ℤ) → ShowsFreed survey number x heights flows → IsFreed survey number (cost_of (changed number x survey) heights) × IsProposed survey number x
shown_each survey number flows x heights shows =
    let total = shown_value survey number flows x heights shows.circulation shows.kept shows.shown in
    let same = no_net_times x (net number survey flows) shows.no_net in
    let equal : value survey flows ≡ pos (cost_of (changed number x survey) heights) = omega (arith, ints) in
    let is = shown_by_value survey number flows x heights shows.circulation shows.no_net shows.kept equal in
    (is, record { freed = cost_of (changed number x survey) heights; is_freed = is; reached = (heights, shows.kept, refl) })

-- ---- how far what is proposed may be
pub same_freed : (survey : Survey) (number : Number) (first second : ℕ) → IsFreed survey number first → IsFreed survey number second → first ≡ second
same_freed survey number first second a b = by a.reached b.reached
  where
    by : ((x : ℤ) × Costs survey number x first) → ((x : ℤ) × Costs survey number x second) → first ≡ second
    by (x, (heights, kept, same)) (y, (others, others_kept, other_same)) =
        let less = a.least y others others_kept in
        let more = b.least x heights kept in
        omega arith

-- the product of two negative numbers
pub low_product : (x n : ℤ) → x <ℤ pos 0 → n <ℤ pos 0 → pos 1 ≤ℤ (x *ℤ n)
low_product (pos a) n below under = absurd (omega (arith, ints))
low_product (negsuc a) (pos b) below under = absurd (omega (arith, ints))
low_product (negsuc a) (negsuc b) below under =
    let some : 1 ≤ suc a = omega arith in
    let p = mul-le-mul_right (suc b) some in
    omega (arith, ints)

-- and of two positive ones
pub high_product : (x n : ℤ) → pos 0 <ℤ x → pos 0 <ℤ n → pos 1 ≤ℤ (x *ℤ n)
high_product x n above over =
    let a = low_product (pos 0 -ℤ x) (pos 0 -ℤ n) (omega (arith, ints)) (omega (arith, ints)) in
    let b = times-minus (pos 0 -ℤ x) (pos 0) n in
    let c = *ℤ_comm (pos 0 -ℤ x) n in
    let d = times-minus n (pos 0) x in
    let e = *ℤ_comm n x in
    omega (arith, ints)

-- past a change where the value reaches what is left, it is greater if the product is positive
past : (v low x n : ℤ) (freed : ℕ) → v +ℤ low *ℤ n ≡ pos freed → pos 1 ≤ℤ ((x -ℤ low) *ℤ n) → unsigned_abs (v +ℤ x *ℤ n) ≤ freed → ⊥
past v low x n freed equal more most =
    let a = *ℤ_comm (x -ℤ low) n in
    let b = times-minus n x low in
    let c = *ℤ_comm n x in
    let d = *ℤ_comm n low in
    omega (arith, ints)

proposed_value : (survey : Survey) (number : Number) (flows : List ℤ) (x : ℤ) (freed : ℕ) → Circulates survey flows → IsFreed survey number freed → IsProposed survey number x → unsigned_abs (value survey flows +ℤ x *ℤ net number survey flows) ≤ freed
proposed_value survey number flows x freed circulation is_freed proposed =
    let most = bounds_costs survey number flows x proposed.freed circulation proposed.reached in
    let same = same_freed survey number freed proposed.freed is_freed proposed.is_freed in
    omega arith

pub low_bound : (survey : Survey) (number : Number) (flows : List ℤ) (low x : ℤ) (freed : ℕ) → Circulates survey flows → IsFreed survey number freed → value survey flows +ℤ low *ℤ net number survey flows ≡ pos freed → net number survey flows <ℤ pos 0 → IsProposed survey number x → low ≤ℤ x
low_bound survey number flows low x freed circulation is_freed equal under proposed = by (x -ℤ low) refl
  where
    by : (gap : ℤ) → x -ℤ low ≡ gap → low ≤ℤ x
    by (pos n) e = omega (arith, ints)
    by (negsuc n) e = absurd (past (value survey flows) low x (net number survey flows) freed equal (low_product (x -ℤ low) (net number survey flows) (omega (arith, ints)) under) (proposed_value survey number flows x freed circulation is_freed proposed))

pub high_bound : (survey : Survey) (number : Number) (flows : List ℤ) (high x : ℤ) (freed : ℕ) → Circulates survey flows → IsFreed survey number freed → value survey flows +ℤ high *ℤ net number survey flows ≡ pos freed → pos 0 <ℤ net number survey flows → IsProposed survey number x → x ≤ℤ high
high_bound survey number flows high x freed circulation is_freed equal over proposed = by (high -ℤ x) refl
  where
    by : (gap : ℤ) → high -ℤ x ≡ gap → x ≤ℤ high
    by (pos n) e = omega (arith, ints)
    by (negsuc n) e = absurd (past (value survey flows) high x (net number survey flows) freed equal (high_product (x -ℤ high) (net number survey flows) (omega (arith, ints)) over) (proposed_value survey number flows x freed circulation is_freed proposed))
