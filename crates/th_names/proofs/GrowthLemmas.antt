-- Sights that are read as if their number had grown: by how much depends on the heights.
use Rattle.std.proofs.Common.{◌≡◌, ℕ, Bool, true, false, ◌+◌, ◌*◌, ◌≤◌, ℤ, pos, ◌+ℤ◌, ◌-ℤ◌, ◌*ℤ◌, List, [], ◌∷◌, if◌then◌else◌, sum_by, unsigned_abs, refl, ap, ◌∙◌, sym, subst, arith, mul-le-mul_left}
use Rattle.std.specs.List.{AllByRecursion}
use Rattle.std.proofs.Math.Nat.{add-mul, mul-add}
use Rattle.std.proofs.Math.Path.{fun_ext}
use Rattle.std.proofs.lemmas.Int.{ints}
use Rattle.std.proofs.lemmas.List.Sums.{sum_by-cons}
use Rattle.std.proofs.lemmas.List.Elements.{recursion_from_All}
use Rattle.th_observations.specs.Observed.{Observed}
use Rattle.th_tables.specs.Rows.{WeightRows, weight_of}
use Rattle.th_network.specs.Heights.{residual}
use Rattle.th_network.specs.Networks.{Survey}
use Rattle.th_network.proofs.Balance.{weaker}
use Rattle.th_reliability.specs.Sights.{in_sights}
use Rattle.th_reliability.specs.declared.sights.Sights.{Sights}
use Rattle.th_changes.specs.declared.numbers.Number.TheVariants.{Added}
use Rattle.th_changes.specs.Numbers.{touch, changed}
use Rattle.th_changes.specs.Freed.{IsFreed, Keeps, cost_of}
use Rattle.th_changes.proofs.Tilts.{tilted}
use Rattle.th_changes.proofs.Changes.{lowered, raised, cost_changed, keeps_lowered, keeps_raised}
use Rattle.th_names.specs.Readings.{IsLeft, KeepsRead, aimed, of_observations, read_cost, set_up, with_other_sign}
use Rattle.th_names.specs.Fits.{AreFrom, AreTo, AreBestFreed, weight_in}

-- read so, the sights are off as if their number had grown by this, whatever the heights
abbrev pub Grown : (Observed → Observed) → Sights → ((List ℕ → ℤ) → ℤ) → List Observed → Type 0
Grown read sights growth observations = (heights : List ℕ → ℤ) → AllByRecursion (λ o. residual (read o) heights ≡ residual o heights +ℤ growth heights *ℤ touch (Added sights) o) observations

pub read_tilted : (read : Observed → Observed) (more : Observed → ℤ) (weights : WeightRows) (heights : List ℕ → ℤ) (observations : List Observed) → AllByRecursion (λ o. residual (read o) heights ≡ residual o heights +ℤ more o) observations → sum_by (λ o. weight_of weights o.station o.target * unsigned_abs (residual (read o) heights)) observations ≡ tilted more observations weights heights
read_tilted read more weights heights [] same = refl
read_tilted read more weights heights (o ∷ observations) same =
    let a = sum_by-cons (λ o. weight_of weights o.station o.target * unsigned_abs (residual (read o) heights)) o observations in
    let b = sum_by-cons (λ o. weight_of weights o.station o.target * unsigned_abs (residual o heights +ℤ more o)) o observations in
    let one = ap (λ r. weight_of weights o.station o.target * unsigned_abs r) same.0 in
    let rest = read_tilted read more weights heights observations same.1 in
    omega arith

-- a number of sights moves no benchmark
pub unlowered : (sights : Sights) (x : ℤ) (heights : List ℕ → ℤ) → lowered (Added sights) x heights ≡ heights
unlowered sights x heights = fun_ext (λ name. none (heights name))
  where
    none : (h : ℤ) → h -ℤ x *ℤ pos 0 ≡ h
    none h = omega (arith, ints)

pub unraised : (sights : Sights) (x : ℤ) (heights : List ℕ → ℤ) → raised (Added sights) x heights ≡ heights
unraised sights x heights = fun_ext (λ name. none (heights name))
  where
    none : (h : ℤ) → h +ℤ x *ℤ pos 0 ≡ h
    none h = omega (arith, ints)

pub cost_added : (survey : Survey) (sights : Sights) (x : ℤ) (heights : List ℕ → ℤ) → cost_of (changed (Added sights) x survey) heights ≡ tilted (λ o. x *ℤ touch (Added sights) o) survey.observations survey.weights heights
cost_added survey sights x heights =
    cost_changed survey (Added sights) x heights
    ∙ ap (λ h. tilted (λ o. x *ℤ touch (Added sights) o) survey.observations survey.weights h) (unlowered sights x heights)

pub keeps_added : (survey : Survey) (sights : Sights) (x : ℤ) (heights : List ℕ → ℤ) → Keeps survey heights → Keeps (changed (Added sights) x survey) heights
keeps_added survey sights x heights kept = subst (Keeps (changed (Added sights) x survey)) (unraised sights x heights) (keeps_raised survey (Added sights) x heights kept)

pub keeps_not_added : (survey : Survey) (sights : Sights) (x : ℤ) (heights : List ℕ → ℤ) → Keeps (changed (Added sights) x survey) heights → Keeps survey heights
keeps_not_added survey sights x heights kept = subst (Keeps survey) (unlowered sights x heights) (keeps_lowered survey (Added sights) x heights kept)

pub grown_cost : (survey : Survey) (read : Observed → Observed) (sights : Sights) (growth : (List ℕ → ℤ) → ℤ) (heights : List ℕ → ℤ) → Grown read sights growth survey.observations → read_cost survey (of_observations read) heights ≡ cost_of (changed (Added sights) (growth heights) survey) heights
grown_cost survey read sights growth heights grown =
    read_tilted read (λ o. growth heights *ℤ touch (Added sights) o) survey.weights heights survey.observations (grown heights)
    ∙ sym (cost_added survey sights (growth heights) heights)

-- ---- no more than the number
pub grown_no_more : (survey : Survey) (read : Observed → Observed) (sights : Sights) (growth : (List ℕ → ℤ) → ℤ) (freed left : ℕ) → Grown read sights growth survey.observations → IsFreed survey (Added sights) freed → IsLeft survey (of_observations read) left → freed ≤ left
grown_no_more survey read sights growth freed left grown is_freed is_left = by is_left.reached
  where
    by : ((heights : List ℕ → ℤ) × KeepsRead survey (of_observations read) heights × (read_cost survey (of_observations read) heights ≡ left)) → freed ≤ left
    by (heights, kept, same) =
        let least = is_freed.least (growth heights) heights (keeps_added survey sights (growth heights) heights kept) in
        let cost = grown_cost survey read sights growth heights grown in
        omega arith

-- ---- little more, if it fits
one_near : (b : Bool) (w : ℕ) (r x y : ℤ) → w * unsigned_abs (r +ℤ x *ℤ ((if b then pos 1 else pos 0) +ℤ pos 0 -ℤ pos 0)) ≤ w * unsigned_abs (r +ℤ y *ℤ ((if b then pos 1 else pos 0) +ℤ pos 0 -ℤ pos 0)) + (if b then w else 0) * unsigned_abs (x -ℤ y)
one_near true w r x y =
    let near : unsigned_abs (r +ℤ x *ℤ (pos 1 +ℤ pos 0 -ℤ pos 0)) ≤ unsigned_abs (r +ℤ y *ℤ (pos 1 +ℤ pos 0 -ℤ pos 0)) + unsigned_abs (x -ℤ y) = omega (arith, ints) in
    let times = mul-le-mul_left w near in
    let parts = mul-add w (unsigned_abs (r +ℤ y *ℤ (pos 1 +ℤ pos 0 -ℤ pos 0))) (unsigned_abs (x -ℤ y)) in
    omega arith
one_near false w r x y =
    let same : unsigned_abs (r +ℤ x *ℤ (pos 0 +ℤ pos 0 -ℤ pos 0)) ≡ unsigned_abs (r +ℤ y *ℤ (pos 0 +ℤ pos 0 -ℤ pos 0)) = omega (arith, ints) in
    let times = ap (λ n. w * n) same in
    omega arith

tilted_near : (sights : Sights) (x y : ℤ) (weights : WeightRows) (heights : List ℕ → ℤ) (observations : List Observed) → tilted (λ o. x *ℤ touch (Added sights) o) observations weights heights ≤ tilted (λ o. y *ℤ touch (Added sights) o) observations weights heights + sum_by (λ o. if in_sights sights o then weight_of weights o.station o.target else 0) observations * unsigned_abs (x -ℤ y)
tilted_near sights x y weights heights [] = omega arith
tilted_near sights x y weights heights (o ∷ observations) =
    let w = weight_of weights o.station o.target in
    let a = sum_by-cons (λ o. weight_of weights o.station o.target * unsigned_abs (residual o heights +ℤ x *ℤ touch (Added sights) o)) o observations in
    let b = sum_by-cons (λ o. weight_of weights o.station o.target * unsigned_abs (residual o heights +ℤ y *ℤ touch (Added sights) o)) o observations in
    let c = sum_by-cons (λ o. if in_sights sights o then weight_of weights o.station o.target else 0) o observations in
    let d = ap (λ n. n * unsigned_abs (x -ℤ y)) c in
    let e = add-mul (if in_sights sights o then w else 0) (sum_by (λ o. if in_sights sights o then weight_of weights o.station o.target else 0) observations) (unsigned_abs (x -ℤ y)) in
    let one = one_near (in_sights sights o) w (residual o heights) x y in
    let rest = tilted_near sights x y weights heights observations in
    omega arith

pub grown_little_more : (survey : Survey) (read : Observed → Observed) (sights : Sights) (growth : (List ℕ → ℤ) → ℤ) (freed left : ℕ) (x : ℤ) (heights : List ℕ → ℤ) → Grown read sights growth survey.observations → AreBestFreed survey (Added sights) freed x heights → IsLeft survey (of_observations read) left → left ≤ freed + weight_in survey sights * unsigned_abs (growth heights -ℤ x)
grown_little_more survey read sights growth freed left x heights grown best is_left =
    let least = is_left.least heights (keeps_not_added survey sights x heights best.kept) in
    let cost = grown_cost survey read sights growth heights grown in
    let own = cost_added survey sights (growth heights) heights in
    let given = cost_added survey sights x heights in
    let near = tilted_near sights (growth heights) x survey.weights heights survey.observations in
    let reached = best.reached in
    omega arith

-- ---- as much as the number
pub grown_fits : (survey : Survey) (read : Observed → Observed) (sights : Sights) (growth : (List ℕ → ℤ) → ℤ) (freed : ℕ) → Grown read sights growth survey.observations → IsFreed survey (Added sights) freed → IsLeft survey (of_observations read) freed → (heights : List ℕ → ℤ) × AreBestFreed survey (Added sights) freed (growth heights) heights
grown_fits survey read sights growth freed grown is_freed is_left = by is_left.reached
  where
    by : ((heights : List ℕ → ℤ) × KeepsRead survey (of_observations read) heights × (read_cost survey (of_observations read) heights ≡ freed)) → (heights : List ℕ → ℤ) × AreBestFreed survey (Added sights) freed (growth heights) heights
    by (heights, kept, same) = (
      heights,
      record {
        is_freed = is_freed;
        kept = keeps_added survey sights (growth heights) heights kept;
        reached = sym (grown_cost survey read sights growth heights grown) ∙ same;
      },
    )

-- ---- the readings of sights
pub chosen : (b : Bool) (point other : List ℕ) (heights : List ℕ → ℤ) → heights (if b then point else other) ≡ (if b then heights point else heights other)
chosen true point other heights = refl
chosen false point other heights = refl

one_aimed : (b : Bool) (d hp ht ho hs : ℤ) → (b ≡ true → ho ≡ ht) → d -ℤ ((if b then hp else ho) -ℤ hs) ≡ d -ℤ (ho -ℤ hs) +ℤ (ht -ℤ hp) *ℤ ((if b then pos 1 else pos 0) +ℤ pos 0 -ℤ pos 0)
one_aimed true d hp ht ho hs of = let at = of refl in omega (arith, ints)
one_aimed false d hp ht ho hs of = omega (arith, ints)

pub aimed_grown : (sights : Sights) (target point : List ℕ) (observations : List Observed) → AreTo sights target observations → Grown (aimed sights point) sights (λ heights. heights target -ℤ heights point) observations
aimed_grown sights target point observations all heights =
    weaker (λ o. in_sights sights o ≡ true → o.target ≡ target) (λ o. residual (aimed sights point o) heights ≡ residual o heights +ℤ (heights target -ℤ heights point) *ℤ touch (Added sights) o) each observations (recursion_from_All (λ o. in_sights sights o ≡ true → o.target ≡ target) observations all)
  where
    each : (o : Observed) → (in_sights sights o ≡ true → o.target ≡ target) → residual (aimed sights point o) heights ≡ residual o heights +ℤ (heights target -ℤ heights point) *ℤ touch (Added sights) o
    each o of =
        ap (λ h. o.difference -ℤ (h -ℤ heights o.station)) (chosen (in_sights sights o) point o.target heights)
        ∙ one_aimed (in_sights sights o) o.difference (heights point) (heights target) (heights o.target) (heights o.station) (λ e. ap heights (of e))

one_set_up : (b : Bool) (d hp hs ho ht : ℤ) → (b ≡ true → ho ≡ hs) → d -ℤ (ht -ℤ (if b then hp else ho)) ≡ d -ℤ (ht -ℤ ho) +ℤ (hp -ℤ hs) *ℤ ((if b then pos 1 else pos 0) +ℤ pos 0 -ℤ pos 0)
one_set_up true d hp hs ho ht of = let at = of refl in omega (arith, ints)
one_set_up false d hp hs ho ht of = omega (arith, ints)

pub set_up_grown : (sights : Sights) (station point : List ℕ) (observations : List Observed) → AreFrom sights station observations → Grown (set_up sights point) sights (λ heights. heights point -ℤ heights station) observations
set_up_grown sights station point observations all heights =
    weaker (λ o. in_sights sights o ≡ true → o.station ≡ station) (λ o. residual (set_up sights point o) heights ≡ residual o heights +ℤ (heights point -ℤ heights station) *ℤ touch (Added sights) o) each observations (recursion_from_All (λ o. in_sights sights o ≡ true → o.station ≡ station) observations all)
  where
    each : (o : Observed) → (in_sights sights o ≡ true → o.station ≡ station) → residual (set_up sights point o) heights ≡ residual o heights +ℤ (heights point -ℤ heights station) *ℤ touch (Added sights) o
    each o of =
        ap (λ h. o.difference -ℤ (heights o.target -ℤ h)) (chosen (in_sights sights o) point o.station heights)
        ∙ one_set_up (in_sights sights o) o.difference (heights point) (heights station) (heights o.station) (heights o.target) (λ e. ap heights (of e))

one_turned : (b : Bool) (d w ht hs : ℤ) → (if b then d -ℤ pos 2 *ℤ w else d) -ℤ (ht -ℤ hs) ≡ d -ℤ (ht -ℤ hs) +ℤ (pos 0 -ℤ pos 2 *ℤ w) *ℤ ((if b then pos 1 else pos 0) +ℤ pos 0 -ℤ pos 0)
one_turned true d w ht hs = omega (arith, ints)
one_turned false d w ht hs = omega (arith, ints)

pub turned_grown : (sights : Sights) (word : ℤ) (observations : List Observed) → Grown (with_other_sign sights word) sights (λ heights. pos 0 -ℤ pos 2 *ℤ word) observations
turned_grown sights word [] heights = tt
turned_grown sights word (o ∷ observations) heights =
    (one_turned (in_sights sights o) o.difference word (heights o.target) (heights o.station), turned_grown sights word observations heights)

-- ---- the laws for them
pub target_no_more : (survey : Survey) (sights : Sights) (target point : List ℕ) (freed left : ℕ) → AreTo sights target survey.observations → IsFreed survey (Added sights) freed → IsLeft survey (of_observations (aimed sights point)) left → freed ≤ left
target_no_more survey sights target point freed left all = grown_no_more survey (aimed sights point) sights (λ heights. heights target -ℤ heights point) freed left (aimed_grown sights target point survey.observations all)

pub station_no_more : (survey : Survey) (sights : Sights) (station point : List ℕ) (freed left : ℕ) → AreFrom sights station survey.observations → IsFreed survey (Added sights) freed → IsLeft survey (of_observations (set_up sights point)) left → freed ≤ left
station_no_more survey sights station point freed left all = grown_no_more survey (set_up sights point) sights (λ heights. heights point -ℤ heights station) freed left (set_up_grown sights station point survey.observations all)

pub sign_no_more : (survey : Survey) (sights : Sights) (word : ℤ) (freed left : ℕ) → IsFreed survey (Added sights) freed → IsLeft survey (of_observations (with_other_sign sights word)) left → freed ≤ left
sign_no_more survey sights word freed left = grown_no_more survey (with_other_sign sights word) sights (λ heights. pos 0 -ℤ pos 2 *ℤ word) freed left (turned_grown sights word survey.observations)

pub target_little_more : (survey : Survey) (sights : Sights) (target point : List ℕ) (freed left : ℕ) (x : ℤ) (heights : List ℕ → ℤ) → AreTo sights target survey.observations → AreBestFreed survey (Added sights) freed x heights → IsLeft survey (of_observations (aimed sights point)) left → left ≤ freed + weight_in survey sights * unsigned_abs ((heights target -ℤ heights point) -ℤ x)
target_little_more survey sights target point freed left x heights all = grown_little_more survey (aimed sights point) sights (λ heights. heights target -ℤ heights point) freed left x heights (aimed_grown sights target point survey.observations all)

pub station_little_more : (survey : Survey) (sights : Sights) (station point : List ℕ) (freed left : ℕ) (x : ℤ) (heights : List ℕ → ℤ) → AreFrom sights station survey.observations → AreBestFreed survey (Added sights) freed x heights → IsLeft survey (of_observations (set_up sights point)) left → left ≤ freed + weight_in survey sights * unsigned_abs ((heights point -ℤ heights station) -ℤ x)
station_little_more survey sights station point freed left x heights all = grown_little_more survey (set_up sights point) sights (λ heights. heights point -ℤ heights station) freed left x heights (set_up_grown sights station point survey.observations all)

pub sign_little_more : (survey : Survey) (sights : Sights) (word : ℤ) (freed left : ℕ) (x : ℤ) (heights : List ℕ → ℤ) → AreBestFreed survey (Added sights) freed x heights → IsLeft survey (of_observations (with_other_sign sights word)) left → left ≤ freed + weight_in survey sights * unsigned_abs ((pos 0 -ℤ pos 2 *ℤ word) -ℤ x)
sign_little_more survey sights word freed left x heights = grown_little_more survey (with_other_sign sights word) sights (λ heights. pos 0 -ℤ pos 2 *ℤ word) freed left x heights (turned_grown sights word survey.observations)

pub target_fits : (survey : Survey) (sights : Sights) (target point : List ℕ) (freed : ℕ) → AreTo sights target survey.observations → IsFreed survey (Added sights) freed → IsLeft survey (of_observations (aimed sights point)) freed → (heights : List ℕ → ℤ) × AreBestFreed survey (Added sights) freed (heights target -ℤ heights point) heights
target_fits survey sights target point freed all = grown_fits survey (aimed sights point) sights (λ heights. heights target -ℤ heights point) freed (aimed_grown sights target point survey.observations all)

pub station_fits : (survey : Survey) (sights : Sights) (station point : List ℕ) (freed : ℕ) → AreFrom sights station survey.observations → IsFreed survey (Added sights) freed → IsLeft survey (of_observations (set_up sights point)) freed → (heights : List ℕ → ℤ) × AreBestFreed survey (Added sights) freed (heights point -ℤ heights station) heights
station_fits survey sights station point freed all = grown_fits survey (set_up sights point) sights (λ heights. heights point -ℤ heights station) freed (set_up_grown sights station point survey.observations all)
