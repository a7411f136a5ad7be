-- How far from a reading all best heights are, where its number is set free.
use Rattle.std.proofs.Common.{◌≡◌, ℕ, ◌+◌, ◌*◌, ◌≤◌, ℤ, pos, ◌+ℤ◌, ◌-ℤ◌, ◌*ℤ◌, List, [], ◌∷◌, map, unsigned_abs, refl, ap, arith, mul-le-mul_right}
use Rattle.std.specs.List.{AllByRecursion, AllZip}
use Rattle.std.proofs.Math.IntN.{*ℤ_comm}
use Rattle.std.proofs.lemmas.Int.{ints, unsigned_abs-mul}
use Rattle.std.proofs.lemmas.List.Sums.{sum_by-cons}
use Rattle.std.proofs.lemmas.List.Elements.{recursion_from_All}
use Rattle.th_observations.specs.Observed.{Observed}
use Rattle.th_tables.specs.Rows.{WeightRows, weight_of}
use Rattle.th_network.specs.Heights.{residual}
use Rattle.th_network.specs.Networks.{Survey}
use Rattle.th_network.proofs.Products.{times-minus, times-plus}
use Rattle.th_reliability.specs.declared.sights.Sights.{Sights}
use Rattle.th_changes.specs.declared.numbers.Number.TheVariants.{Added}
use Rattle.th_changes.specs.Numbers.{touch}
use Rattle.th_changes.specs.Flows.{Circulates, net, value}
use Rattle.th_changes.proofs.Tilts.{pushed, pushed_value, summed, summed-cons, summed-times, tilted}
use Rattle.th_names.specs.Readings.{aimed, of_observations, set_up}
use Rattle.th_names.specs.Fits.{AreFrom, AreTo, AreBestFreed}
use Rattle.th_names.specs.Mended.{KeepsWeights, as_read}
use Rattle.th_names.proofs.BoundLemmas.{summed_none}
use Rattle.th_names.proofs.GrowthLemmas.{Grown, aimed_grown, cost_added, keeps_not_added, set_up_grown}

-- one product is at most the weight times the size
product_size : (flow r : ℤ) (w : ℕ) → unsigned_abs flow ≤ w → unsigned_abs (flow *ℤ r) ≤ w * unsigned_abs r
product_size flow r w bound =
    let size = unsigned_abs-mul flow r in
    let more = mul-le-mul_right (unsigned_abs r) bound in
    omega arith

sum_size : (a b : ℤ) (m n : ℕ) → unsigned_abs a ≤ m → unsigned_abs b ≤ n → unsigned_abs (a +ℤ b) ≤ m + n
sum_size a b m n less more = omega (arith, ints)

-- flows that are bounded by the weights as they are read, which are those that the observations have
pushed_size : (read : Observed → Observed) (more : Observed → ℤ) (old new : WeightRows) (heights : List ℕ → ℤ) (observations : List Observed) (flows : List ℤ) → AllByRecursion (λ o. weight_of new (read o).station (read o).target ≡ weight_of old o.station o.target) observations → AllZip (λ o flow. unsigned_abs flow ≤ weight_of new o.station o.target) (map read observations) flows → unsigned_abs (pushed more heights observations flows) ≤ tilted more observations old heights
pushed_size read more old new heights [] [] weighed bounded = omega (arith, ints)
pushed_size read more old new heights [] (flow ∷ flows) weighed bounded = absurd bounded
pushed_size read more old new heights (o ∷ observations) [] weighed bounded = absurd bounded
pushed_size read more old new heights (o ∷ observations) (flow ∷ flows) weighed bounded =
    let w = weight_of old o.station o.target in
    let small = bounded.0 in
    let same = weighed.0 in
    let one = product_size flow (residual o heights +ℤ more o) w (omega arith) in
    let rest = pushed_size read more old new heights observations flows weighed.1 bounded.1 in
    let both = sum_size (flow *ℤ (residual o heights +ℤ more o)) (pushed more heights observations flows) (w * unsigned_abs (residual o heights +ℤ more o)) (tilted more observations old heights) one rest in
    let p = sum_by-cons (λ o. weight_of old o.station o.target * unsigned_abs (residual o heights +ℤ more o)) o observations in
    omega arith

-- what the flows bring along the observations as they are read
pushed_read : (read : Observed → Observed) (more : Observed → ℤ) (heights : List ℕ → ℤ) (observations : List Observed) (flows : List ℤ) → AllByRecursion (λ o. residual (read o) heights ≡ residual o heights +ℤ more o) observations → pushed (λ o. pos 0) heights (map read observations) flows ≡ pushed more heights observations flows
pushed_read read more heights [] flows same = refl
pushed_read read more heights (o ∷ observations) [] same = refl
pushed_read read more heights (o ∷ observations) (flow ∷ flows) same =
    let at = same.0 in
    let r : residual (read o) heights +ℤ pos 0 ≡ residual o heights +ℤ more o = omega (arith, ints) in
    let one = ap (λ z. flow *ℤ z) r in
    let rest = pushed_read read more heights observations flows same.1 in
    omega (arith, ints)

-- two additions that are multiples of one
pushed_apart : (g x : ℤ) (f : Observed → ℤ) (heights : List ℕ → ℤ) (observations : List Observed) (flows : List ℤ) → pushed (λ o. g *ℤ f o) heights observations flows ≡ pushed (λ o. x *ℤ f o) heights observations flows +ℤ summed (λ o. (g -ℤ x) *ℤ f o) observations flows
pushed_apart g x f heights [] flows = refl
pushed_apart g x f heights (o ∷ observations) [] = refl
pushed_apart g x f heights (o ∷ observations) (flow ∷ flows) =
    let a = *ℤ_comm (g -ℤ x) (f o) in
    let b = times-minus (f o) g x in
    let c = *ℤ_comm (f o) g in
    let d = *ℤ_comm (f o) x in
    let e : residual o heights +ℤ g *ℤ f o ≡ (residual o heights +ℤ x *ℤ f o) +ℤ (g -ℤ x) *ℤ f o = omega (arith, ints) in
    let one = ap (λ z. flow *ℤ z) e in
    let parts = times-plus flow (residual o heights +ℤ x *ℤ f o) ((g -ℤ x) *ℤ f o) in
    let s = summed-cons (λ o. (g -ℤ x) *ℤ f o) o observations flow flows in
    let rest = pushed_apart g x f heights observations flows in
    omega (arith, ints)

fit_bound : (survey : Survey) (read : Observed → Observed) (sights : Sights) (growth : (List ℕ → ℤ) → ℤ) (weights : WeightRows) (flows : List ℤ) (freed : ℕ) (x : ℤ) (heights : List ℕ → ℤ) → Grown read sights growth survey.observations → KeepsWeights survey (of_observations read) weights → Circulates (as_read survey (of_observations read) weights) flows → AreBestFreed survey (Added sights) freed x heights → unsigned_abs (value (as_read survey (of_observations read) weights) flows) ≤ freed + unsigned_abs (growth heights -ℤ x) * unsigned_abs (net (Added sights) survey flows)
fit_bound survey read sights growth weights flows freed x heights grown weighed circulation best =
    let own = as_read survey (of_observations read) weights in
    let total = pushed_value (λ o. pos 0) own.observations own.benchmarks weights flows heights circulation (keeps_not_added survey sights x heights best.kept) in
    let none = summed_none own.observations flows in
    let along = pushed_read read (λ o. growth heights *ℤ touch (Added sights) o) heights survey.observations flows (grown heights) in
    let apart = pushed_apart (growth heights) x (touch (Added sights)) heights survey.observations flows in
    let times = summed-times (growth heights -ℤ x) (touch (Added sights)) survey.observations flows in
    let each = recursion_from_All (λ o. weight_of weights (read o).station (read o).target ≡ weight_of survey.weights o.station o.target) survey.observations weighed in
    let size = pushed_size read (λ o. x *ℤ touch (Added sights) o) survey.weights weights heights survey.observations flows each circulation.bounded in
    let cost = cost_added survey sights x heights in
    let reached = best.reached in
    let product = unsigned_abs-mul (growth heights -ℤ x) (net (Added sights) survey flows) in
    let sum : value own flows ≡ pushed (λ o. x *ℤ touch (Added sights) o) heights survey.observations flows +ℤ (growth heights -ℤ x) *ℤ net (Added sights) survey flows = omega (arith, ints) in
    let both = sum_size (pushed (λ o. x *ℤ touch (Added sights) o) heights survey.observations flows) ((growth heights -ℤ x) *ℤ net (Added sights) survey flows) freed (unsigned_abs (growth heights -ℤ x) * unsigned_abs (net (Added sights) survey flows)) (omega arith) (omega arith) in
    let whole = ap unsigned_abs sum in
    omega arith

pub target_bound : (survey : Survey) (sights : Sights) (target point : List ℕ) (weights : WeightRows) (flows : List ℤ) (freed : ℕ) (x : ℤ) (heights : List ℕ → ℤ) → AreTo sights target survey.observations → KeepsWeights survey (of_observations (aimed sights point)) weights → Circulates (as_read survey (of_observations (aimed sights point)) weights) flows → AreBestFreed survey (Added sights) freed x heights → unsigned_abs (value (as_read survey (of_observations (aimed sights point)) weights) flows) ≤ freed + unsigned_abs ((heights target -ℤ heights point) -ℤ x) * unsigned_abs (net (Added sights) survey flows)
target_bound survey sights target point weights flows freed x heights all = fit_bound survey (aimed sights point) sights (λ heights. heights target -ℤ heights point) weights flows freed x heights (aimed_grown sights target point survey.observations all)

pub station_bound : (survey : Survey) (sights : Sights) (station point : List ℕ) (weights : WeightRows) (flows : List ℤ) (freed : ℕ) (x : ℤ) (heights : List ℕ → ℤ) → AreFrom sights station survey.observations → KeepsWeights survey (of_observations (set_up sights point)) weights → Circulates (as_read survey (of_observations (set_up sights point)) weights) flows → AreBestFreed survey (Added sights) freed x heights → unsigned_abs (value (as_read survey (of_observations (set_up sights point)) weights) flows) ≤ freed + unsigned_abs ((heights point -ℤ heights station) -ℤ x) * unsigned_abs (net (Added sights) survey flows)
station_bound survey sights station point weights flows freed x heights all = fit_bound survey (set_up sights point) sights (λ heights. heights point -ℤ heights station) weights flows freed x heights (set_up_grown sights station point survey.observations all)
