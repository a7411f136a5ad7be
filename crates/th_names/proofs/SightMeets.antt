-- Of two best heights where the number of some sights is set free, the lower ones and the higher ones are best too, counted from where
-- the sights end or begin.
use Rattle.std.proofs.Common.{◌≡◌, ℕ, Bool, true, false, ◌+◌, ◌*◌, ◌≤◌, ℤ, pos, ◌+ℤ◌, ◌-ℤ◌, ◌*ℤ◌, ◌≤ℤ◌, inl, inr, List, [], ◌∷◌, if◌then◌else◌, unsigned_abs, refl, ap, ◌∙◌, sym, arith}
use Rattle.std.specs.List.{AllByRecursion}
use Rattle.std.proofs.lemmas.Int.{ints}
use Rattle.std.proofs.lemmas.List.Sums.{sum_by-cons}
use Rattle.std.proofs.lemmas.List.Elements.{recursion_from_All}
use Rattle.th_observations.specs.Observed.{Observed}
use Rattle.th_tables.specs.Rows.{WeightRows, weight_of}
use Rattle.th_network.specs.Heights.{residual}
use Rattle.th_network.specs.Networks.{Survey}
use Rattle.th_reliability.specs.Sights.{in_sights}
use Rattle.th_reliability.specs.declared.sights.Sights.{Sights}
use Rattle.th_changes.specs.declared.numbers.Number.TheVariants.{Added}
use Rattle.th_changes.specs.Numbers.{touch}
use Rattle.th_changes.specs.Freed.{Keeps}
use Rattle.th_changes.proofs.Tilts.{tilted}
use Rattle.th_names.specs.Fits.{AreBestFreed, AreFrom, AreTo, above_begin, above_end}
use Rattle.th_names.proofs.GrowthLemmas.{cost_added, keeps_added, keeps_not_added}
use Rattle.th_names.proofs.MeetLemmas.{IsMeet, greater, greater_over, greater_second, lesser, lesser_first, lesser_under, meets, one_meet}

-- heights with a change of the number, and by how much they are raised to be counted from the sights' own end
record Solution : Type 0 where
  pub change : ℤ
  pub heights : List ℕ → ℤ
  pub raise : ℤ

-- raised, they are the lower and the higher ones of two
abbrev AreMeets : (a b low high : Solution) → Type 0
AreMeets a b low high = (name : List ℕ) → IsMeet (a.heights name +ℤ a.raise) (b.heights name +ℤ b.raise) (low.heights name +ℤ low.raise) (high.heights name +ℤ high.raise)

none : IsMeet (pos 0) (pos 0) (pos 0) (pos 0)
none = inl (refl, refl, omega (arith, ints))

abbrev tau : Bool → ℤ
tau b = (if b then pos 1 else pos 0) +ℤ pos 0 -ℤ pos 0

-- ---- one observation
-- counted from their target
to_target : (b : Bool) (d x k s t : ℤ) → (b ≡ true → k ≡ x -ℤ t) → d -ℤ (t -ℤ s) +ℤ x *ℤ tau b ≡ d -ℤ ((if b then pos 0 else (t +ℤ k)) -ℤ (s +ℤ k))
to_target true d x k s t is = let at = is refl in omega (arith, ints)
to_target false d x k s t is = omega (arith, ints)

-- counted from their station
from_station : (b : Bool) (d x k s t : ℤ) → (b ≡ true → k ≡ (pos 0 -ℤ x) -ℤ s) → d -ℤ (t -ℤ s) +ℤ x *ℤ tau b ≡ d -ℤ ((t +ℤ k) -ℤ (if b then pos 0 else (s +ℤ k)))
from_station true d x k s t is = let at = is refl in omega (arith, ints)
from_station false d x k s t is = omega (arith, ints)

own_end : (b : Bool) (s u sl sh : ℤ) → IsMeet s u sl sh → IsMeet (if b then pos 0 else s) (if b then pos 0 else u) (if b then pos 0 else sl) (if b then pos 0 else sh)
own_end true s u sl sh meet = none
own_end false s u sl sh meet = meet

-- ---- all of them
abbrev cost_with : Sights → WeightRows → Solution → List Observed → ℕ
cost_with sights weights own observations = tilted (λ o. own.change *ℤ touch (Added sights) o) observations weights own.heights

-- the raise of a solution is that of the target of the sights, or of their station
abbrev IsToTarget : List ℕ → Solution → Type 0
IsToTarget target own = own.raise ≡ own.change -ℤ own.heights target

abbrev IsFromStation : List ℕ → Solution → Type 0
IsFromStation station own = own.raise ≡ (pos 0 -ℤ own.change) -ℤ own.heights station

abbrev one_cost : Sights → WeightRows → Solution → Observed → ℕ
one_cost sights weights own o = weight_of weights o.station o.target * unsigned_abs (residual o own.heights +ℤ own.change *ℤ touch (Added sights) o)

abbrev NoMore : Sights → WeightRows → (a b low high : Solution) → Observed → Type 0
NoMore sights weights a b low high o = (one_cost sights weights low o + one_cost sights weights high o) ≤ (one_cost sights weights a o + one_cost sights weights b o)

sum_no_more : (sights : Sights) (weights : WeightRows) (a b low high : Solution) (observations : List Observed) → AllByRecursion (NoMore sights weights a b low high) observations → (cost_with sights weights low observations + cost_with sights weights high observations) ≤ (cost_with sights weights a observations + cost_with sights weights b observations)
sum_no_more sights weights a b low high [] each = omega arith
sum_no_more sights weights a b low high (o ∷ observations) each =
    let of_a = sum_by-cons (one_cost sights weights a) o observations in
    let of_b = sum_by-cons (one_cost sights weights b) o observations in
    let of_low = sum_by-cons (one_cost sights weights low) o observations in
    let of_high = sum_by-cons (one_cost sights weights high) o observations in
    let one = each.0 in
    let rest = sum_no_more sights weights a b low high observations each.1 in
    omega arith

target_each : (sights : Sights) (target : List ℕ) (weights : WeightRows) (a b low high : Solution) → AreMeets a b low high → IsToTarget target a → IsToTarget target b → IsToTarget target low → IsToTarget target high → (observations : List Observed) → AllByRecursion (λ o. in_sights sights o ≡ true → o.target ≡ target) observations → AllByRecursion (NoMore sights weights a b low high) observations
target_each sights target weights a b low high meet of_a of_b of_low of_high [] all = tt
target_each sights target weights a b low high meet of_a of_b of_low of_high (o ∷ observations) all = (one, target_each sights target weights a b low high meet of_a of_b of_low of_high observations all.1)
  where
    side : Solution → ℤ
    side own = if in_sights sights o then pos 0 else (own.heights o.target +ℤ own.raise)

    same : (own : Solution) → IsToTarget target own → one_cost sights weights own o ≡ weight_of weights o.station o.target * unsigned_abs (o.difference -ℤ (side own -ℤ (own.heights o.station +ℤ own.raise)))
    same own is = ap (λ r. weight_of weights o.station o.target * unsigned_abs r) (to_target (in_sights sights o) o.difference own.change own.raise (own.heights o.station) (own.heights o.target) (λ e. is ∙ ap (λ name. own.change -ℤ own.heights name) (sym (all.0 e))))

    one : NoMore sights weights a b low high o
    one =
        let more = one_meet (weight_of weights o.station o.target) o.difference (a.heights o.station +ℤ a.raise) (side a) (b.heights o.station +ℤ b.raise) (side b) (low.heights o.station +ℤ low.raise) (high.heights o.station +ℤ high.raise) (side low) (side high) (meet o.station) (own_end (in_sights sights o) (a.heights o.target +ℤ a.raise) (b.heights o.target +ℤ b.raise) (low.heights o.target +ℤ low.raise) (high.heights o.target +ℤ high.raise) (meet o.target)) in
        let e = same a of_a in
        let f = same b of_b in
        let g = same low of_low in
        let h = same high of_high in
        omega arith

station_each : (sights : Sights) (station : List ℕ) (weights : WeightRows) (a b low high : Solution) → AreMeets a b low high → IsFromStation station a → IsFromStation station b → IsFromStation station low → IsFromStation station high → (observations : List Observed) → AllByRecursion (λ o. in_sights sights o ≡ true → o.station ≡ station) observations → AllByRecursion (NoMore sights weights a b low high) observations
station_each sights station weights a b low high meet of_a of_b of_low of_high [] all = tt
station_each sights station weights a b low high meet of_a of_b of_low of_high (o ∷ observations) all = (one, station_each sights station weights a b low high meet of_a of_b of_low of_high observations all.1)
  where
    side : Solution → ℤ
    side own = if in_sights sights o then pos 0 else (own.heights o.station +ℤ own.raise)

    same : (own : Solution) → IsFromStation station own → one_cost sights weights own o ≡ weight_of weights o.station o.target * unsigned_abs (o.difference -ℤ ((own.heights o.target +ℤ own.raise) -ℤ side own))
    same own is = ap (λ r. weight_of weights o.station o.target * unsigned_abs r) (from_station (in_sights sights o) o.difference own.change own.raise (own.heights o.station) (own.heights o.target) (λ e. is ∙ ap (λ name. (pos 0 -ℤ own.change) -ℤ own.heights name) (sym (all.0 e))))

    one : NoMore sights weights a b low high o
    one =
        let more = one_meet (weight_of weights o.station o.target) o.difference (side a) (a.heights o.target +ℤ a.raise) (side b) (b.heights o.target +ℤ b.raise) (side low) (side high) (low.heights o.target +ℤ low.raise) (high.heights o.target +ℤ high.raise) (own_end (in_sights sights o) (a.heights o.station +ℤ a.raise) (b.heights o.station +ℤ b.raise) (low.heights o.station +ℤ low.raise) (high.heights o.station +ℤ high.raise) (meet o.station)) (meet o.target) in
        let e = same a of_a in
        let f = same b of_b in
        let g = same low of_low in
        let h = same high of_high in
        omega arith

-- ---- both are best
abbrev lower : (a b : Solution) → ℤ → Solution
lower a b change = record { change = change; heights = λ name. lesser (a.heights name +ℤ a.raise) (b.heights name +ℤ b.raise) -ℤ lesser a.raise b.raise; raise = lesser a.raise b.raise }

abbrev higher : (a b : Solution) → ℤ → Solution
higher a b change = record { change = change; heights = λ name. greater (a.heights name +ℤ a.raise) (b.heights name +ℤ b.raise) -ℤ greater a.raise b.raise; raise = greater a.raise b.raise }

lower_higher : (a b : Solution) (x y : ℤ) → AreMeets a b (lower a b x) (higher a b y)
lower_higher a b x y name = by (meets (a.heights name +ℤ a.raise) (b.heights name +ℤ b.raise))
  where
    back : (z k : ℤ) → (z -ℤ k) +ℤ k ≡ z
    back z k = omega (arith, ints)

    by : IsMeet (a.heights name +ℤ a.raise) (b.heights name +ℤ b.raise) (lesser (a.heights name +ℤ a.raise) (b.heights name +ℤ b.raise)) (greater (a.heights name +ℤ a.raise) (b.heights name +ℤ b.raise)) → IsMeet (a.heights name +ℤ a.raise) (b.heights name +ℤ b.raise) ((lower a b x).heights name +ℤ (lower a b x).raise) ((higher a b y).heights name +ℤ (higher a b y).raise)
    by (inl (e, f, g)) = inl (back _ _ ∙ e, back _ _ ∙ f, g)
    by (inr (e, f, g)) = inr (back _ _ ∙ e, back _ _ ∙ f, g)

fixed_lower : (height k l u v km lm : ℤ) → u ≡ height → v ≡ height → IsMeet k l km lm → (low high : ℤ) → IsMeet (u +ℤ k) (v +ℤ l) low high → (low -ℤ km ≡ height) × (high -ℤ lm ≡ height)
fixed_lower height k l u v km lm e f (inl (a, b, c)) low high (inl (g, h, i)) = (omega (arith, ints), omega (arith, ints))
fixed_lower height k l u v km lm e f (inl (a, b, c)) low high (inr (g, h, i)) = (omega (arith, ints), omega (arith, ints))
fixed_lower height k l u v km lm e f (inr (a, b, c)) low high (inl (g, h, i)) = (omega (arith, ints), omega (arith, ints))
fixed_lower height k l u v km lm e f (inr (a, b, c)) low high (inr (g, h, i)) = (omega (arith, ints), omega (arith, ints))

both_kept : (survey : Survey) (a b : Solution) (x y : ℤ) → Keeps survey a.heights → Keeps survey b.heights → Keeps survey (lower a b x).heights × Keeps survey (higher a b y).heights
both_kept survey a b x y of_a of_b = (
  λ name height listed. (at name height (of_a name height listed) (of_b name height listed)).0,
  λ name height listed. (at name height (of_a name height listed) (of_b name height listed)).1,
)
  where
    at : (name : List ℕ) (height : ℤ) → a.heights name ≡ height → b.heights name ≡ height → ((lower a b x).heights name ≡ height) × ((higher a b y).heights name ≡ height)
    at name height e f = fixed_lower height a.raise b.raise (a.heights name) (b.heights name) (lesser a.raise b.raise) (greater a.raise b.raise) e f (meets a.raise b.raise) _ _ (meets (a.heights name +ℤ a.raise) (b.heights name +ℤ b.raise))

abbrev AreBestWith : Survey → Sights → ℕ → Solution → Type 0
AreBestWith survey sights freed own = AreBestFreed survey (Added sights) freed own.change own.heights

both_best : (survey : Survey) (sights : Sights) (freed : ℕ) (a b : Solution) (x y : ℤ) → AreBestWith survey sights freed a → AreBestWith survey sights freed b → AllByRecursion (NoMore sights survey.weights a b (lower a b x) (higher a b y)) survey.observations → AreBestWith survey sights freed (lower a b x) × AreBestWith survey sights freed (higher a b y)
both_best survey sights freed a b x y best_a best_b each =
    let low = lower a b x in
    let high = higher a b y in
    let kept = both_kept survey a b x y (keeps_not_added survey sights a.change a.heights best_a.kept) (keeps_not_added survey sights b.change b.heights best_b.kept) in
    let low_kept = keeps_added survey sights x low.heights kept.0 in
    let high_kept = keeps_added survey sights y high.heights kept.1 in
    let sum = sum_no_more sights survey.weights a b low high survey.observations each in
    let of_a = cost_added survey sights a.change a.heights in
    let of_b = cost_added survey sights b.change b.heights in
    let of_low = cost_added survey sights x low.heights in
    let of_high = cost_added survey sights y high.heights in
    let low_least = best_a.is_freed.least x low.heights low_kept in
    let high_least = best_a.is_freed.least y high.heights high_kept in
    let reached_a = best_a.reached in
    let reached_b = best_b.reached in (
      record { is_freed = best_a.is_freed; kept = low_kept; reached = omega arith },
      record { is_freed = best_a.is_freed; kept = high_kept; reached = omega arith },
    )

-- heights and others with changes of the number; lower ones at the first change, and higher ones at the second
record AreMet (survey : Survey) (sights : Sights) (freed : ℕ) (above : ℤ → (List ℕ → ℤ) → List ℕ → ℤ) (x y : ℤ) (heights others : List ℕ → ℤ) : Type 0 where
  pub low : List ℕ → ℤ
  pub low_best : AreBestFreed survey (Added sights) freed x low
  pub low_under : (point : List ℕ) → above x low point ≤ℤ above y others point
  pub high : List ℕ → ℤ
  pub high_best : AreBestFreed survey (Added sights) freed y high
  pub high_over : (point : List ℕ) → above x heights point ≤ℤ above y high point

-- ---- counted from the target
target_met : (survey : Survey) (sights : Sights) (target : List ℕ) (freed : ℕ) (x y : ℤ) (heights others : List ℕ → ℤ) → AreTo sights target survey.observations → AreBestFreed survey (Added sights) freed x heights → AreBestFreed survey (Added sights) freed y others → x ≤ℤ y → AreMet survey sights freed (above_end target) x y heights others
target_met survey sights target freed x y heights others all best best_others less = record {
  low = low.heights;
  low_best = both.0;
  low_under = λ point. let under = lesser_under (heights point +ℤ a.raise) (others point +ℤ b.raise) in let e = at_low in omega (arith, ints);
  high = high.heights;
  high_best = both.1;
  high_over = λ point. let over = greater_over (heights point +ℤ a.raise) (others point +ℤ b.raise) in let e = at_high in omega (arith, ints);
}
  where
    a : Solution
    a = record { change = x; heights = heights; raise = x -ℤ heights target }

    b : Solution
    b = record { change = y; heights = others; raise = y -ℤ others target }

    low : Solution
    low = lower a b x

    high : Solution
    high = higher a b y

    own : (x t : ℤ) → t +ℤ (x -ℤ t) ≡ x
    own x t = omega (arith, ints)

    at_low : low.heights target ≡ x -ℤ low.raise
    at_low = ap (λ z. lesser z (others target +ℤ b.raise) -ℤ low.raise) (own x (heights target)) ∙ ap (λ z. lesser x z -ℤ low.raise) (own y (others target)) ∙ ap (λ z. z -ℤ low.raise) (lesser_first x y less)

    at_high : high.heights target ≡ y -ℤ high.raise
    at_high = ap (λ z. greater z (others target +ℤ b.raise) -ℤ high.raise) (own x (heights target)) ∙ ap (λ z. greater x z -ℤ high.raise) (own y (others target)) ∙ ap (λ z. z -ℤ high.raise) (greater_second x y less)

    raised : (r x h : ℤ) → h ≡ x -ℤ r → r ≡ x -ℤ h
    raised r x h e = omega (arith, ints)

    both : AreBestWith survey sights freed low × AreBestWith survey sights freed high
    both = both_best survey sights freed a b x y best best_others (target_each sights target survey.weights a b low high (lower_higher a b x y) refl refl (raised low.raise x (low.heights target) at_low) (raised high.raise y (high.heights target) at_high) survey.observations (recursion_from_All (λ o. in_sights sights o ≡ true → o.target ≡ target) survey.observations all))

pub target_lower : (survey : Survey) (sights : Sights) (target : List ℕ) (freed : ℕ) (x y : ℤ) (heights others : List ℕ → ℤ) → AreTo sights target survey.observations → AreBestFreed survey (Added sights) freed x heights → AreBestFreed survey (Added sights) freed y others → x ≤ℤ y → (lower : List ℕ → ℤ) × AreBestFreed survey (Added sights) freed x lower × ((point : List ℕ) → above_end target x lower point ≤ℤ above_end target y others point)
target_lower survey sights target freed x y heights others all best best_others less =
    let met = target_met survey sights target freed x y heights others all best best_others less in
    (met.low, met.low_best, met.low_under)

pub target_higher : (survey : Survey) (sights : Sights) (target : List ℕ) (freed : ℕ) (x y : ℤ) (heights others : List ℕ → ℤ) → AreTo sights target survey.observations → AreBestFreed survey (Added sights) freed x heights → AreBestFreed survey (Added sights) freed y others → y ≤ℤ x → (higher : List ℕ → ℤ) × AreBestFreed survey (Added sights) freed x higher × ((point : List ℕ) → above_end target y others point ≤ℤ above_end target x higher point)
target_higher survey sights target freed x y heights others all best best_others less =
    let met = target_met survey sights target freed y x others heights all best_others best less in
    (met.high, met.high_best, met.high_over)

-- ---- counted from the station
station_met : (survey : Survey) (sights : Sights) (station : List ℕ) (freed : ℕ) (x y : ℤ) (heights others : List ℕ → ℤ) → AreFrom sights station survey.observations → AreBestFreed survey (Added sights) freed x heights → AreBestFreed survey (Added sights) freed y others → y ≤ℤ x → AreMet survey sights freed (above_begin station) x y heights others
station_met survey sights station freed x y heights others all best best_others less = record {
  low = low.heights;
  low_best = both.0;
  low_under = λ point. let under = lesser_under (heights point +ℤ a.raise) (others point +ℤ b.raise) in let e = at_low in omega (arith, ints);
  high = high.heights;
  high_best = both.1;
  high_over = λ point. let over = greater_over (heights point +ℤ a.raise) (others point +ℤ b.raise) in let e = at_high in omega (arith, ints);
}
  where
    a : Solution
    a = record { change = x; heights = heights; raise = (pos 0 -ℤ x) -ℤ heights station }

    b : Solution
    b = record { change = y; heights = others; raise = (pos 0 -ℤ y) -ℤ others station }

    low : Solution
    low = lower a b x

    high : Solution
    high = higher a b y

    own : (x s : ℤ) → s +ℤ ((pos 0 -ℤ x) -ℤ s) ≡ pos 0 -ℤ x
    own x s = omega (arith, ints)

    turned : (pos 0 -ℤ x) ≤ℤ (pos 0 -ℤ y)
    turned = omega (arith, ints)

    at_low : low.heights station ≡ (pos 0 -ℤ x) -ℤ low.raise
    at_low = ap (λ z. lesser z (others station +ℤ b.raise) -ℤ low.raise) (own x (heights station)) ∙ ap (λ z. lesser (pos 0 -ℤ x) z -ℤ low.raise) (own y (others station)) ∙ ap (λ z. z -ℤ low.raise) (lesser_first (pos 0 -ℤ x) (pos 0 -ℤ y) turned)

    at_high : high.heights station ≡ (pos 0 -ℤ y) -ℤ high.raise
    at_high = ap (λ z. greater z (others station +ℤ b.raise) -ℤ high.raise) (own x (heights station)) ∙ ap (λ z. greater (pos 0 -ℤ x) z -ℤ high.raise) (own y (others station)) ∙ ap (λ z. z -ℤ high.raise) (greater_second (pos 0 -ℤ x) (pos 0 -ℤ y) turned)

    raised : (r x h : ℤ) → h ≡ (pos 0 -ℤ x) -ℤ r → r ≡ (pos 0 -ℤ x) -ℤ h
    raised r x h e = omega (arith, ints)

    both : AreBestWith survey sights freed low × AreBestWith survey sights freed high
    both = both_best survey sights freed a b x y best best_others (station_each sights station survey.weights a b low high (lower_higher a b x y) refl refl (raised low.raise x (low.heights station) at_low) (raised high.raise y (high.heights station) at_high) survey.observations (recursion_from_All (λ o. in_sights sights o ≡ true → o.station ≡ station) survey.observations all))

pub station_lower : (survey : Survey) (sights : Sights) (station : List ℕ) (freed : ℕ) (x y : ℤ) (heights others : List ℕ → ℤ) → AreFrom sights station survey.observations → AreBestFreed survey (Added sights) freed x heights → AreBestFreed survey (Added sights) freed y others → y ≤ℤ x → (lower : List ℕ → ℤ) × AreBestFreed survey (Added sights) freed x lower × ((point : List ℕ) → above_begin station x lower point ≤ℤ above_begin station y others point)
station_lower survey sights station freed x y heights others all best best_others less =
    let met = station_met survey sights station freed x y heights others all best best_others less in
    (met.low, met.low_best, met.low_under)

pub station_higher : (survey : Survey) (sights : Sights) (station : List ℕ) (freed : ℕ) (x y : ℤ) (heights others : List ℕ → ℤ) → AreFrom sights station survey.observations → AreBestFreed survey (Added sights) freed x heights → AreBestFreed survey (Added sights) freed y others → x ≤ℤ y → (higher : List ℕ → ℤ) × AreBestFreed survey (Added sights) freed x higher × ((point : List ℕ) → above_begin station y others point ≤ℤ above_begin station x higher point)
station_higher survey sights station freed x y heights others all best best_others less =
    let met = station_met survey sights station freed y x others heights all best_others best less in
    (met.high, met.high_best, met.high_over)
