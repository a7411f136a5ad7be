-- A change of a number is an addition to the residuals, at heights that keep the benchmarks that the survey had before.
use Rattle.std.proofs.Common.{◌≡◌, ℕ, Bool, true, false, ◌*◌, ℤ, pos, ◌+ℤ◌, ◌-ℤ◌, ◌*ℤ◌, List, [], ◌∷◌, Option, Some, None, cond, bytes_eq, map, sum_by, unsigned_abs, refl, ap, ◌∙◌, sym, arith}
use Rattle.std.proofs.lemmas.Int.{ints}
use Rattle.std.proofs.lemmas.List.Sums.{sum_by-cons}
use Rattle.std.proofs.lemmas.Slice.Eq.{bytes_eq-Decides}
use Rattle.std.proofs.Math.Path.{fun_ext}
use Rattle.th_observations.specs.Observed.{Observed}
use Rattle.th_tables.specs.Rows.{BenchmarkRows, WeightRows, height_of, weight_of}
use Rattle.th_network.specs.Heights.{residual, cost}
use Rattle.th_network.specs.Networks.{Survey}
use Rattle.th_network.proofs.Products.{times-plus, times-minus}
use Rattle.th_changes.specs.declared.numbers.Number.{Number}
use Rattle.th_changes.specs.declared.numbers.Number.TheVariants.{Added, Subtracted, Benchmark}
use Rattle.th_changes.specs.Numbers.{share, lift, touch, changed_observation, changed_row, changed}
use Rattle.th_changes.specs.Freed.{Keeps, cost_of}
use Rattle.th_changes.proofs.Tilts.{tilted}

-- heights of the survey before the change: those after it, less the change at its benchmark
abbrev pub lowered : Number → ℤ → (List ℕ → ℤ) → List ℕ → ℤ
lowered number x heights name = heights name -ℤ x *ℤ lift number name

-- and the other way
abbrev pub raised : Number → ℤ → (List ℕ → ℤ) → List ℕ → ℤ
raised number x heights name = heights name +ℤ x *ℤ lift number name

pub lowered_raised : (number : Number) (x : ℤ) (heights : List ℕ → ℤ) → lowered number x (raised number x heights) ≡ heights
lowered_raised number x heights = fun_ext (λ name. omega (arith, ints))

-- a change moves neither what a number shares nor what it touches
pub share_same : (number other : Number) (x : ℤ) (o : Observed) → share number (changed_observation other x o) ≡ share number o
share_same (Added sights) other x o = refl
share_same (Subtracted sights) other x o = refl
share_same (Benchmark name) other x o = refl

pub touch_same : (number other : Number) (x : ℤ) (o : Observed) → touch number (changed_observation other x o) ≡ touch number o
touch_same number other x o =
    let same = share_same number other x o in
    omega (arith, ints)

-- one residual
changed_residual : (x d s ls lt ht hs : ℤ) → (d +ℤ x *ℤ s) -ℤ (ht -ℤ hs) ≡ d -ℤ ((ht -ℤ x *ℤ lt) -ℤ (hs -ℤ x *ℤ ls)) +ℤ x *ℤ (s +ℤ ls -ℤ lt)
changed_residual x d s ls lt ht hs =
    let a = times-minus x (s +ℤ ls) lt in
    let b = times-plus x s ls in
    omega (arith, ints)

pub residual_changed : (number : Number) (x : ℤ) (o : Observed) (heights : List ℕ → ℤ) → residual (changed_observation number x o) heights ≡ residual o (lowered number x heights) +ℤ x *ℤ touch number o
residual_changed number x o heights = changed_residual x o.difference (share number o) (lift number o.station) (lift number o.target) (heights o.target) (heights o.station)

-- the cost, with nothing added
pub cost_tilted : (observations : List Observed) (weights : WeightRows) (heights : List ℕ → ℤ) → cost observations weights heights ≡ tilted (λ o. pos 0) observations weights heights
cost_tilted observations weights heights = ap (λ f. sum_by f observations) (fun_ext (λ o. ap (λ r. weight_of weights o.station o.target * unsigned_abs r) (none (residual o heights))))
  where
    none : (r : ℤ) → r ≡ r +ℤ pos 0
    none r = omega (arith, ints)

pub tilted_same : (more other : Observed → ℤ) (observations : List Observed) (weights : WeightRows) (heights : List ℕ → ℤ) → ((o : Observed) → more o ≡ other o) → tilted more observations weights heights ≡ tilted other observations weights heights
tilted_same more other observations weights heights same = ap (λ f. tilted f observations weights heights) (fun_ext same)

pub tilted_changed : (number : Number) (x : ℤ) (more : Observed → ℤ) (observations : List Observed) (weights : WeightRows) (heights : List ℕ → ℤ) → tilted more (map (changed_observation number x) observations) weights heights ≡ tilted (λ o. x *ℤ touch number o +ℤ more (changed_observation number x o)) observations weights (lowered number x heights)
tilted_changed number x more [] weights heights = refl
tilted_changed number x more (o ∷ observations) weights heights =
    let w = weight_of weights o.station o.target in
    let a = sum_by-cons (λ o. weight_of weights o.station o.target * unsigned_abs (residual o heights +ℤ more o)) (changed_observation number x o) (map (changed_observation number x) observations) in
    let b = sum_by-cons (λ o. weight_of weights o.station o.target * unsigned_abs (residual o (lowered number x heights) +ℤ (x *ℤ touch number o +ℤ more (changed_observation number x o)))) o observations in
    let one = ap (λ r. w * unsigned_abs r) (joined (residual (changed_observation number x o) heights) (residual o (lowered number x heights)) (x *ℤ touch number o) (more (changed_observation number x o)) (residual_changed number x o heights)) in
    let rest = tilted_changed number x more observations weights heights in
    omega arith
  where
    joined : (r s t m : ℤ) → r ≡ s +ℤ t → r +ℤ m ≡ s +ℤ (t +ℤ m)
    joined r s t m same = omega (arith, ints)

pub cost_changed : (survey : Survey) (number : Number) (x : ℤ) (heights : List ℕ → ℤ) → cost_of (changed number x survey) heights ≡ tilted (λ o. x *ℤ touch number o) survey.observations survey.weights (lowered number x heights)
cost_changed survey number x heights =
    cost_tilted (map (changed_observation number x) survey.observations) survey.weights heights
    ∙ tilted_changed number x (λ o. pos 0) survey.observations survey.weights heights
    ∙ tilted_same (λ o. x *ℤ touch number o +ℤ pos 0) (λ o. x *ℤ touch number o) survey.observations survey.weights (lowered number x heights) (λ o. omega (arith, ints))

pub cost_changed_twice : (survey : Survey) (first second : Number) (x y : ℤ) (heights : List ℕ → ℤ) → cost_of (changed second y (changed first x survey)) heights ≡ tilted (λ o. x *ℤ touch first o +ℤ y *ℤ touch second o) survey.observations survey.weights (lowered first x (lowered second y heights))
cost_changed_twice survey first second x y heights =
    cost_changed (changed first x survey) second y heights
    ∙ tilted_changed first x (λ o. y *ℤ touch second o) survey.observations survey.weights (lowered second y heights)
    ∙ tilted_same (λ o. x *ℤ touch first o +ℤ y *ℤ touch second (changed_observation first x o)) (λ o. x *ℤ touch first o +ℤ y *ℤ touch second o) survey.observations survey.weights (lowered first x (lowered second y heights)) (λ o. ap (λ t. x *ℤ touch first o +ℤ y *ℤ t) (touch_same second first x o))

-- ---- the heights of benchmarks
abbrev pub added : ℤ → Option ℤ → Option ℤ
added more None = None
added more (Some height) = Some (height +ℤ more)

pub height_changed : (number : Number) (x : ℤ) (rows : BenchmarkRows) (name : List ℕ) → height_of (map (changed_row number x) rows) name ≡ added (x *ℤ lift number name) (height_of rows name)
height_changed number x [] name = refl
height_changed number x (row ∷ rows) name = by (bytes_eq name row.0) (bytes_eq-Decides name row.0).0 (height_changed number x rows name)
  where
    by : (b : Bool) → (b ≡ true → name ≡ row.0) → height_of (map (changed_row number x) rows) name ≡ added (x *ℤ lift number name) (height_of rows name) → cond b (Some (row.1 +ℤ x *ℤ lift number row.0)) (height_of (map (changed_row number x) rows) name) ≡ added (x *ℤ lift number name) (cond b (Some row.1) (height_of rows name))
    by true same rest = ap (λ n. Some (row.1 +ℤ x *ℤ lift number n)) (sym (same refl))
    by false same rest = rest

pub keeps_lowered : (survey : Survey) (number : Number) (x : ℤ) (heights : List ℕ → ℤ) → Keeps (changed number x survey) heights → Keeps survey (lowered number x heights)
keeps_lowered survey number x heights kept name height listed =
    let at = kept name (height +ℤ x *ℤ lift number name) (height_changed number x survey.benchmarks name ∙ ap (added (x *ℤ lift number name)) listed) in
    omega (arith, ints)

pub keeps_raised : (survey : Survey) (number : Number) (x : ℤ) (heights : List ℕ → ℤ) → Keeps survey heights → Keeps (changed number x survey) (raised number x heights)
keeps_raised survey number x heights kept name height listed = by (height_of survey.benchmarks name) (kept name) (sym (height_changed number x survey.benchmarks name) ∙ listed)
  where
    by : (found : Option ℤ) → ((given : ℤ) → found ≡ Some given → heights name ≡ given) → added (x *ℤ lift number name) found ≡ Some height → raised number x heights name ≡ height
    by None at same = absurd (grind arith)
    by (Some given) at same =
        let here = at given refl in
        let is : given +ℤ x *ℤ lift number name ≡ height = grind arith in
        omega (arith, ints)
