-- Right names mend wrong ones, and what is then left is at most what the right survey costs.
use Rattle.std.proofs.Common.{◌≡◌, ℕ, Bool, true, false, ◌*◌, ◌≤◌, ℤ, pos, ◌-ℤ◌, ◌*ℤ◌, List, [], ◌∷◌, All, Some, None, cond, bytes_eq, if◌then◌else◌, map, sum_by, unsigned_abs, refl, ap, ◌∙◌, sym, subst, arith, mul-le-mul_left, mul-le-mul_right}
use Rattle.std.specs.List.{AllByRecursion}
use Rattle.std.proofs.lemmas.Int.{ints}
use Rattle.std.proofs.lemmas.List.Sums.{sum_by-cons}
use Rattle.std.proofs.lemmas.List.Elements.{recursion_from_All}
use Rattle.std.proofs.lemmas.Slice.Eq.{bytes_eq-Decides}
use Rattle.th_observations.specs.Observed.{Observed}
use Rattle.th_tables.specs.Rows.{BenchmarkRows, WeightRows, height_of, weight_of}
use Rattle.th_network.specs.Heights.{IsHeights, residual, cost}
use Rattle.th_network.specs.Networks.{Survey}
use Rattle.th_reliability.specs.Sights.{in_sights}
use Rattle.th_reliability.specs.declared.sights.Sights.{Sights}
use Rattle.th_changes.specs.Freed.{Keeps, cost_of}
use Rattle.th_names.specs.Readings.{IsLeft, KeepsRead, Reading, aimed, renamed_row, of_observations, of_rows, set_up, with_other_sign}
use Rattle.th_names.specs.Fits.{AreFrom, AreTo}
use Rattle.th_names.specs.Mended.{IsMended, WeighsNoLess, read}
use Rattle.th_names.proofs.PointLemmas.{none_some}

-- ---- what is left of a mended survey
keeps_mended : (right wrong : Survey) (reading : Reading) (truth : List ℕ → ℤ) → IsMended right wrong reading → Keeps right truth → KeepsRead wrong reading truth
keeps_mended right wrong reading truth mended kept = subst (λ rows. IsHeights rows truth) (sym mended.rows) kept

lighter : (read : Observed → Observed) (old new : WeightRows) (heights : List ℕ → ℤ) (observations : List Observed) → AllByRecursion (λ o. weight_of old o.station o.target ≤ weight_of new (read o).station (read o).target) observations → sum_by (λ o. weight_of old o.station o.target * unsigned_abs (residual (read o) heights)) observations ≤ cost (map read observations) new heights
lighter read old new heights [] less = omega arith
lighter read old new heights (o ∷ observations) less =
    let a = sum_by-cons (λ o. weight_of new o.station o.target * unsigned_abs (residual o heights)) (read o) (map read observations) in
    let b = sum_by-cons (λ o. weight_of old o.station o.target * unsigned_abs (residual (read o) heights)) o observations in
    let one = mul-le-mul_right (unsigned_abs (residual (read o) heights)) less.0 in
    let rest = lighter read old new heights observations less.1 in
    omega arith

pub mended_left : (right wrong : Survey) (reading : Reading) (truth : List ℕ → ℤ) (left : ℕ) → IsMended right wrong reading → WeighsNoLess wrong reading right.weights → Keeps right truth → IsLeft wrong reading left → left ≤ cost_of right truth
mended_left right wrong reading truth left mended weighed kept is_left =
    let least = is_left.least truth (keeps_mended right wrong reading truth mended kept) in
    let own = lighter reading.observation wrong.weights right.weights truth wrong.observations (recursion_from_All (λ o. weight_of wrong.weights o.station o.target ≤ weight_of right.weights (reading.observation o).station (reading.observation o).target) wrong.observations weighed) in
    let same = ap (λ os. cost os right.weights truth) mended.observations in
    omega arith

fits_free : (read : Observed → Observed) (weights : WeightRows) (truth : List ℕ → ℤ) (observations : List Observed) → AllByRecursion (λ o. residual o truth ≡ pos 0) (map read observations) → sum_by (λ o. weight_of weights o.station o.target * unsigned_abs (residual (read o) truth)) observations ≡ 0
fits_free read weights truth [] fits = refl
fits_free read weights truth (o ∷ observations) fits =
    let a = sum_by-cons (λ o. weight_of weights o.station o.target * unsigned_abs (residual (read o) truth)) o observations in
    let size : unsigned_abs (residual (read o) truth) ≡ 0 = ap unsigned_abs fits.0 in
    let one = mul-le-mul_left (weight_of weights o.station o.target) (small (unsigned_abs (residual (read o) truth)) size) in
    let rest = fits_free read weights truth observations fits.1 in
    omega arith
  where
    small : (n : ℕ) → n ≡ 0 → n ≤ 0
    small n e = omega arith

pub mended_exact : (right wrong : Survey) (reading : Reading) (truth : List ℕ → ℤ) (left : ℕ) → IsMended right wrong reading → Keeps right truth → All (λ o. residual o truth ≡ pos 0) right.observations → IsLeft wrong reading left → left ≡ 0
mended_exact right wrong reading truth left mended kept fits is_left =
    let least = is_left.least truth (keeps_mended right wrong reading truth mended kept) in
    let each = recursion_from_All (λ o. residual o truth ≡ pos 0) right.observations fits in
    let none = fits_free reading.observation wrong.weights truth wrong.observations (subst (AllByRecursion (λ o. residual o truth ≡ pos 0)) (sym mended.observations) each) in
    omega arith

-- ---- names of sights
back : (b : Bool) (right wrong own : List ℕ) → (b ≡ true → own ≡ right) → (if b then right else (if b then wrong else own)) ≡ own
back true right wrong own of = sym (of refl)
back false right wrong own of = refl

aimed_back : (sights : Sights) (target point : List ℕ) (observations : List Observed) → AllByRecursion (λ o. in_sights sights o ≡ true → o.target ≡ target) observations → map (aimed sights target) (map (aimed sights point) observations) ≡ observations
aimed_back sights target point [] all = refl
aimed_back sights target point (o ∷ observations) all =
    ap (λ name. record o { target = name } ∷ map (aimed sights target) (map (aimed sights point) observations)) (back (in_sights sights o) target point o.target all.0)
    ∙ ap (λ os. o ∷ os) (aimed_back sights target point observations all.1)

pub target_mends : (right : Survey) (sights : Sights) (target point : List ℕ) → AreTo sights target right.observations → IsMended right (read (of_observations (aimed sights point)) right) (of_observations (aimed sights target))
target_mends right sights target point all = record {
  observations = aimed_back sights target point right.observations (recursion_from_All (λ o. in_sights sights o ≡ true → o.target ≡ target) right.observations all);
  rows = refl;
}

set_up_back : (sights : Sights) (station point : List ℕ) (observations : List Observed) → AllByRecursion (λ o. in_sights sights o ≡ true → o.station ≡ station) observations → map (set_up sights station) (map (set_up sights point) observations) ≡ observations
set_up_back sights station point [] all = refl
set_up_back sights station point (o ∷ observations) all =
    ap (λ name. record o { station = name } ∷ map (set_up sights station) (map (set_up sights point) observations)) (back (in_sights sights o) station point o.station all.0)
    ∙ ap (λ os. o ∷ os) (set_up_back sights station point observations all.1)

pub station_mends : (right : Survey) (sights : Sights) (station point : List ℕ) → AreFrom sights station right.observations → IsMended right (read (of_observations (set_up sights point)) right) (of_observations (set_up sights station))
station_mends right sights station point all = record {
  observations = set_up_back sights station point right.observations (recursion_from_All (λ o. in_sights sights o ≡ true → o.station ≡ station) right.observations all);
  rows = refl;
}

-- ---- a sign
sign_back : (b : Bool) (d w : ℤ) → (if b then (if b then d -ℤ pos 2 *ℤ w else d) -ℤ pos 2 *ℤ (pos 0 -ℤ w) else (if b then d -ℤ pos 2 *ℤ w else d)) ≡ d
sign_back true d w = omega (arith, ints)
sign_back false d w = refl

turned_back : (sights : Sights) (word : ℤ) (observations : List Observed) → map (with_other_sign sights (pos 0 -ℤ word)) (map (with_other_sign sights word) observations) ≡ observations
turned_back sights word [] = refl
turned_back sights word (o ∷ observations) =
    ap (λ d. record o { difference = d } ∷ map (with_other_sign sights (pos 0 -ℤ word)) (map (with_other_sign sights word) observations)) (sign_back (in_sights sights o) o.difference word)
    ∙ ap (λ os. o ∷ os) (turned_back sights word observations)

pub sign_mends : (right : Survey) (sights : Sights) (word : ℤ) → IsMended right (read (of_observations (with_other_sign sights word)) right) (of_observations (with_other_sign sights (pos 0 -ℤ word)))
sign_mends right sights word = record { observations = turned_back sights word right.observations; rows = refl }

-- ---- a benchmark's name
name_back : (benchmark point own : List ℕ) → bytes_eq point own ≡ false → (if bytes_eq point (if bytes_eq benchmark own then point else own) then benchmark else (if bytes_eq benchmark own then point else own)) ≡ own
name_back benchmark point own other = by (bytes_eq benchmark own) (bytes_eq-Decides benchmark own).0
  where
    by : (b : Bool) → (b ≡ true → benchmark ≡ own) → (if bytes_eq point (if b then point else own) then benchmark else (if b then point else own)) ≡ own
    by true same = ap (λ c. if c then benchmark else point) ((bytes_eq-Decides point point).1 refl) ∙ same refl
    by false same = ap (λ c. if c then benchmark else own) other

named_back : (benchmark point : List ℕ) (rows : BenchmarkRows) → height_of rows point ≡ None → map (renamed_row point benchmark) (map (renamed_row benchmark point) rows) ≡ rows
named_back benchmark point [] none = refl
named_back benchmark point (row ∷ rows) none = by (bytes_eq point row.0) refl none (named_back benchmark point rows)
  where
    by : (b : Bool) → bytes_eq point row.0 ≡ b → cond b (Some row.1) (height_of rows point) ≡ None → (height_of rows point ≡ None → map (renamed_row point benchmark) (map (renamed_row benchmark point) rows) ≡ rows) → map (renamed_row point benchmark) (map (renamed_row benchmark point) (row ∷ rows)) ≡ row ∷ rows
    by true e none rest = absurd (none_some row.1 (sym none))
    by false e none rest =
        ap (λ name. (name, row.1) ∷ map (renamed_row point benchmark) (map (renamed_row benchmark point) rows)) (name_back benchmark point row.0 e)
        ∙ ap (λ rs. row ∷ rs) (rest none)

pub point_mends : (right : Survey) (benchmark point : List ℕ) → height_of right.benchmarks point ≡ None → IsMended right (read (of_rows (renamed_row benchmark point)) right) (of_rows (renamed_row point benchmark))
point_mends right benchmark point none = record {
  observations = unread right.observations;
  rows = named_back benchmark point right.benchmarks none;
}
  where
    unread : (observations : List Observed) → map (λ o. o) (map (λ o. o) observations) ≡ observations
    unread [] = refl
    unread (o ∷ observations) = ap (λ os. o ∷ os) (unread observations)
