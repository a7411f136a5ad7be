-- A wrong height of a benchmark is a mistake that all observations with an end there share.
use Rattle.std.proofs.Common.{◌≡◌, ◌≢◌, ℕ, zero, suc, Bool, true, false, ◌||◌, ◌+◌, ◌-◌, ◌*◌, ◌<◌, ◌≤◌, ℤ, pos, negsuc, ◌+ℤ◌, ◌-ℤ◌, List, All, Any, Contains, IsSome, ◌⊎◌, inl, inr, if◌then◌else◌, bytes_eq, unwrap_or, unsigned_abs, refl, ap, subst, sym, ◌∙◌, mul-le-mul_left, arith}
use Rattle.std.specs.Prelude.{slice_index_or}
use Rattle.std.proofs.lemmas.Bool.{false≢true, or_left, or_right}
use Rattle.std.proofs.lemmas.Int.{ints}
use Rattle.std.proofs.lemmas.List.Elements.{recursion_from_All}
use Rattle.std.proofs.lemmas.Slice.Eq.{bytes_eq-Decides}
use Rattle.th_observations.specs.Observed.{Observed}
use Rattle.th_tables.specs.Rows.{BenchmarkRows, WeightRows, height_of, weight_of}
use Rattle.th_network.specs.Heights.{IsHeights, Least, cost, residual}
use Rattle.th_network.specs.Networks.{Survey, points_of}
use Rattle.th_reliability.specs.Costs.{cost_outside}
use Rattle.th_reliability.specs.Blunders.{weight_in}
use Rattle.th_reliability.specs.Groups.{IsGroupControl}
use Rattle.th_reliability.specs.SharedMistakes.{IsOutweighed, IsSharedMistake, own, rest}
use Rattle.th_reliability.specs.declared.mistakes.SharedMistake.{SharedMistake}
use Rattle.th_reliability.specs.declared.mistakes.SharedMistake.TheVariants.{Drags, Shows, Ties, Unchecked}
use Rattle.th_reliability.proofs.SharedLemmas.{outweighs}
use Rattle.th_reliability.specs.Fits.{AllElseFits, FitsButAt}
use Rattle.th_reliability.specs.Moves.{ErrsAt, IsMovable, IsOffAt, moved, way, with_height}
use Rattle.th_reliability.specs.Benchmarks.{has_end}
use Rattle.th_reliability.proofs.SumLemmas.{sums-le, sums-le-all, sums-times}
use Rattle.th_reliability.proofs.ShiftLemmas.{shifted_keeps}
use Rattle.th_reliability.proofs.GroupLemmas.{same_residuals}
use Rattle.th_reliability.proofs.WordLemmas.{least, shown}
use Rattle.th_reliability.proofs.NearLemmas.{moves_little}
use Rattle.th_reliability.proofs.MoveLemmas.{err_size, least_moved, moved_cost}

-- ---- the heights that the table gives
-- the true heights, with the table's height at the benchmark
abbrev tabled : List ℕ → ℤ → (List ℕ → ℤ) → List ℕ → ℤ
tabled point error truth = with_height point (truth point +ℤ error) truth

tabled_at : (point : List ℕ) (error : ℤ) (truth : List ℕ → ℤ) (name : List ℕ) → bytes_eq name point ≡ true → tabled point error truth name ≡ truth name +ℤ error
tabled_at point error truth name e = ap (λ (b : Bool). if b then truth point +ℤ error else truth name) e ∙ ap (λ n. truth n +ℤ error) (sym ((bytes_eq-Decides name point).0 e))

tabled_off : (point : List ℕ) (error : ℤ) (truth : List ℕ → ℤ) (name : List ℕ) → bytes_eq name point ≡ false → tabled point error truth name ≡ truth name
tabled_off point error truth name e = ap (λ (b : Bool). if b then truth point +ℤ error else truth name) e

not_it : (name point : List ℕ) → (name ≡ point → ⊥) → bytes_eq name point ≡ false
not_it name point differs = by (bytes_eq name point) refl
  where
    by : (b : Bool) → bytes_eq name point ≡ b → b ≡ false
    by true e = absurd (differs ((bytes_eq-Decides name point).0 e))
    by false e = refl

it_differs : (name point : List ℕ) → bytes_eq name point ≡ false → name ≡ point → ⊥
it_differs name point e same = false≢true (sym e ∙ (bytes_eq-Decides name point).1 same)

pub tabled_kept : (benchmarks : BenchmarkRows) (point : List ℕ) (error : ℤ) (truth : List ℕ → ℤ) → IsOffAt benchmarks point error truth → IsHeights benchmarks (tabled point error truth)
tabled_kept benchmarks point error truth is name height listed = by (bytes_eq name point) refl
  where
    by : (b : Bool) → bytes_eq name point ≡ b → tabled point error truth name ≡ height
    by true e =
        let same = (bytes_eq-Decides name point).0 e in
        let both = ap (λ found. unwrap_or found (pos 0)) (sym is.here ∙ ap (height_of benchmarks) (sym same) ∙ listed) in
        ap (λ (b : Bool). if b then truth point +ℤ error else truth name) e ∙ both
    by false e = tabled_off point error truth name e ∙ is.others name height (it_differs name point e) listed

-- ---- the residuals there
tabled_same : (point : List ℕ) (error : ℤ) (truth : List ℕ → ℤ) (o : Observed) → has_end point o ≡ false → residual o (tabled point error truth) ≡ residual o truth
tabled_same point error truth o out = by (bytes_eq o.station point) (bytes_eq o.target point) refl refl
  where
    by : (s t : Bool) → bytes_eq o.station point ≡ s → bytes_eq o.target point ≡ t → residual o (tabled point error truth) ≡ residual o truth
    by true t e f = absurd (false≢true (sym out ∙ or_left (bytes_eq o.station point) (bytes_eq o.target point) e))
    by false true e f = absurd (false≢true (sym out ∙ or_right (bytes_eq o.station point) (bytes_eq o.target point) f))
    by false false e f =
        let a = tabled_off point error truth o.station e in
        let b = tabled_off point error truth o.target f in
        omega (arith, ints)

tabled_fits : (point : List ℕ) (error : ℤ) (truth : List ℕ → ℤ) (o : Observed) → residual o truth ≡ pos 0 → has_end point o ≡ false → residual o (tabled point error truth) ≡ pos 0
tabled_fits point error truth o fits out = tabled_same point error truth o out ∙ fits

tabled_errs : (point : List ℕ) (error : ℤ) (truth : List ℕ → ℤ) (o : Observed) → (o.station ≡ o.target → ⊥) → residual o truth ≡ pos 0 → has_end point o ≡ true → ErrsAt point error (tabled point error truth) o
tabled_errs point error truth o distinct fits at = by (bytes_eq o.station point) (bytes_eq o.target point) refl refl
  where
    by : (s t : Bool) → bytes_eq o.station point ≡ s → bytes_eq o.target point ≡ t → ErrsAt point error (tabled point error truth) o
    by true true e f = absurd (distinct ((bytes_eq-Decides o.station point).0 e ∙ sym ((bytes_eq-Decides o.target point).0 f)))
    by true false e f =
        let a = tabled_at point error truth o.station e in
        let b = tabled_off point error truth o.target f in
        inl ((bytes_eq-Decides o.station point).0 e, omega (arith, ints))
    by false true e f =
        let a = tabled_off point error truth o.station e in
        let b = tabled_at point error truth o.target f in
        inr ((bytes_eq-Decides o.target point).0 f, omega (arith, ints))
    by false false e f = absurd (false≢true (sym (ap (λ (b : Bool). b || bytes_eq o.target point) e ∙ f) ∙ at))

tabled_else : (survey : Survey) (point : List ℕ) (error : ℤ) (truth : List ℕ → ℤ) → FitsButAt survey point error truth → AllElseFits survey (has_end point) (tabled point error truth)
tabled_else survey point error truth but = record {
  kept = tabled_kept survey.benchmarks point error truth but.off;
  fit = λ k d within out. tabled_fits point error truth (slice_index_or survey.observations k d) (but.fit k d within) out;
}

-- ---- it shows
from_there : (point : List ℕ) (error : ℤ) (truth : List ℕ → ℤ) (o : Observed) → (o.station ≡ o.target → ⊥) → residual o truth ≡ pos 0 → o.station ≡ point → residual o (tabled point error truth) ≡ error
from_there point error truth o distinct fits at =
    let a = tabled_at point error truth o.station ((bytes_eq-Decides o.station point).1 at) in
    let b = tabled_off point error truth o.target (not_it o.target point (λ same. distinct (at ∙ sym same))) in
    omega (arith, ints)

to_there : (point : List ℕ) (error : ℤ) (truth : List ℕ → ℤ) (o : Observed) → (o.station ≡ o.target → ⊥) → residual o truth ≡ pos 0 → o.target ≡ point → residual o (tabled point error truth) ≡ pos 0 -ℤ error
to_there point error truth o distinct fits at =
    let a = tabled_off point error truth o.station (not_it o.station point (λ same. distinct (same ∙ sym at))) in
    let b = tabled_at point error truth o.target ((bytes_eq-Decides o.target point).1 at) in
    omega (arith, ints)

pub shows : (survey : Survey) (truth heights : List ℕ → ℤ) (point : List ℕ) (error : ℤ) → IsSharedMistake survey (has_end point) Shows → FitsButAt survey point error truth → All (λ o. o.station ≢ o.target) survey.observations → Least survey.observations survey.benchmarks survey.weights heights → All (λ name. name ≢ point → heights name ≡ truth name) (points_of survey) × All (λ o. (o.station ≡ point → residual o heights ≡ error) × (o.target ≡ point → residual o heights ≡ pos 0 -ℤ error) × (has_end point o ≡ false → residual o heights ≡ pos 0)) survey.observations
shows survey truth heights point error word but distinct best =
    let there = shown survey (tabled point error truth) heights (has_end point) word (tabled_else survey point error truth but) best in (
      λ k d within differs. there.0 k d within ∙ tabled_off point error truth (slice_index_or (points_of survey) k d) (not_it (slice_index_or (points_of survey) k d) point differs),
      λ k d within.
          let o = slice_index_or survey.observations k d in (
            λ at. there.1 k d within ∙ from_there point error truth o (distinct k d within) (but.fit k d within) at,
            λ at. there.1 k d within ∙ to_there point error truth o (distinct k d within) (but.fit k d within) at,
            λ out. there.1 k d within ∙ tabled_fits point error truth o (but.fit k d within) out,
          ),
    )

-- ---- with small errors in the others
one_outside : (w a b : ℕ) (own : Bool) → (own ≡ false → a ≡ b) → (if own then 0 else w * a) ≤ (if own then 0 else w * b)
one_outside w a b true same = omega arith
one_outside w a b false same = let scaled = ap (λ n. w * n) (same refl) in omega arith

outside_same : (observations : List Observed) (weights : WeightRows) (point : List ℕ) (error : ℤ) (truth : List ℕ → ℤ) → cost_outside observations weights (has_end point) (tabled point error truth) ≤ cost_outside observations weights (has_end point) truth
outside_same observations weights point error truth =
    let w = λ (o : Observed). weight_of weights o.station o.target in
    let a = λ (o : Observed). unsigned_abs (residual o (tabled point error truth)) in
    let b = λ (o : Observed). unsigned_abs (residual o truth) in
    sums-le (λ o. if has_end point o then 0 else w o * a o) (λ o. if has_end point o then 0 else w o * b o) (λ o. one_outside (w o) (a o) (b o) (has_end point o) (λ out. ap unsigned_abs (tabled_same point error truth o out))) observations

pub near : (survey : Survey) (truth heights : List ℕ → ℤ) (point : List ℕ) (error : ℤ) (control : ℕ) (name : List ℕ) → IsGroupControl survey.observations survey.benchmarks survey.weights (has_end point) control → IsOffAt survey.benchmarks point error truth → Least survey.observations survey.benchmarks survey.weights heights → Contains (points_of survey) name → name ≢ point → unsigned_abs (heights name -ℤ truth name) * (control - weight_in survey.observations survey.weights (has_end point)) ≤ 2 * cost_outside survey.observations survey.weights (has_end point) truth
near survey truth heights point error control name is_control is best listed differs =
    let bound = moves_little survey.observations survey.benchmarks survey.weights (tabled point error truth) heights (has_end point) control name is_control (tabled_kept survey.benchmarks point error truth is) best listed in
    let same : unsigned_abs (heights name -ℤ tabled point error truth name) * (control - weight_in survey.observations survey.weights (has_end point)) ≡ unsigned_abs (heights name -ℤ truth name) * (control - weight_in survey.observations survey.weights (has_end point)) = ap (λ h. unsigned_abs (heights name -ℤ h) * (control - weight_in survey.observations survey.weights (has_end point))) (tabled_off point error truth name (not_it name point differs)) in
    let less = outside_same survey.observations survey.weights point error truth in
    omega arith

-- ---- it does not: a least set moves along
pub moves : (survey : Survey) (truth : List ℕ → ℤ) (inside : List ℕ → Bool) (point : List ℕ) (error : ℤ) → IsMovable survey (has_end point) inside → FitsButAt survey point error truth → All (λ o. o.station ≢ o.target) survey.observations → Least survey.observations survey.benchmarks survey.weights (moved inside error (tabled point error truth))
moves survey truth inside point error movable but distinct =
    let out : inside point ≡ false = movable.is.is.free point (subst IsSome (sym but.off.here) refl) in
    let best = least_moved survey (tabled point error truth) (has_end point) inside point error movable
    (λ k d within at. tabled_errs point error truth (slice_index_or survey.observations k d) (distinct k d within) (but.fit k d within) at)
    (tabled_else survey point error truth but) in
    subst (λ b. Least survey.observations survey.benchmarks survey.weights (moved inside (way b error) (tabled point error truth))) out best

pub ties_least : (survey : Survey) (truth : List ℕ → ℤ) (point : List ℕ) (error : ℤ) → IsSharedMistake survey (has_end point) Ties → FitsButAt survey point error truth → Least survey.observations survey.benchmarks survey.weights (tabled point error truth)
ties_least survey truth point error word but = least survey (tabled point error truth) (has_end point) Ties word (inr refl) (tabled_else survey point error truth but)

-- where it ties, the set that weighs the same is movable
tie_set : (survey : Survey) (group : Observed → Bool) (word : IsSharedMistake survey group Ties) → IsMovable survey group word.1.0
tie_set survey group word = record {
  is = record { is = word.1.1; least = λ other free. let low = word.0 other free in let even = word.1.2 in omega arith };
  light = let even = word.1.2 in omega arith;
}

pub ties_moves : (survey : Survey) (truth : List ℕ → ℤ) (point : List ℕ) (error : ℤ) → IsSharedMistake survey (has_end point) Ties → FitsButAt survey point error truth → All (λ o. o.station ≢ o.target) survey.observations → (others : List ℕ → ℤ) × Least survey.observations survey.benchmarks survey.weights others × Any (λ name. (name ≢ point) × (unsigned_abs (others name -ℤ truth name) ≡ unsigned_abs error)) (points_of survey)
ties_moves survey truth point error word but distinct = (
  moved inside error (tabled point error truth),
  moves survey truth inside point error (tie_set survey (has_end point) word) but distinct,
  (word.1.1.point.1.0, name, word.1.1.point.1.1, word.1.1.point.1.2, (differs, off)),
)
  where
    inside : List ℕ → Bool
    inside = word.1.0

    name : List ℕ
    name = word.1.1.point.0

    differs : name ≡ point → ⊥
    differs same = false≢true (sym (word.1.1.free point (subst IsSome (sym but.off.here) refl)) ∙ ap inside (sym same) ∙ word.1.1.point.2)

    off : unsigned_abs (moved inside error (tabled point error truth) name -ℤ truth name) ≡ unsigned_abs error
    off =
        let more = ap (λ (b : Bool). if b then error else pos 0) word.1.1.point.2 in
        let base = tabled_off point error truth name (not_it name point differs) in
        let same : moved inside error (tabled point error truth) name -ℤ truth name ≡ error = omega (arith, ints) in
        ap unsigned_abs same

-- ---- it drags
one_cost : (w size r : ℕ) (b : Bool) → (b ≡ true → size ≤ r) → size * (if b then w else 0) ≤ w * r
one_cost w size r true less = let scaled = mul-le-mul_left w (less refl) in omega arith
one_cost w size r false less = omega arith

-- heights in which all of a group err by the same at a point cost at least that much times the group's weight
errs_cost : (survey : Survey) (heights : List ℕ → ℤ) (group : Observed → Bool) (point : List ℕ) (error : ℤ) → All (λ o. group o ≡ true → ErrsAt point error heights o) survey.observations → unsigned_abs error * weight_in survey.observations survey.weights group ≤ cost survey.observations survey.weights heights
errs_cost survey heights group point error errs =
    let own_weight = λ (o : Observed). if group o then weight_of survey.weights o.station o.target else 0 in
    let size = unsigned_abs error in
    let r = λ (o : Observed). unsigned_abs (residual o heights) in
    let one = λ (o : Observed) (err : group o ≡ true → ErrsAt point error heights o). one_cost (weight_of survey.weights o.station o.target) size (r o) (group o) (λ own. let same = err_size heights point error o (err own) in omega arith) in
    let less = sums-le-all (λ o. size * own_weight o) (λ o. weight_of survey.weights o.station o.target * r o) survey.observations (recursion_from_All (λ o. size * own_weight o ≤ weight_of survey.weights o.station o.target * r o) survey.observations (λ k d within. one (slice_index_or survey.observations k d) (errs k d within))) in
    let times = sums-times size own_weight survey.observations in
    omega arith

gains : (size a b : ℕ) → 1 ≤ size → a < b → size * a < size * b
gains size a b some less = let low : (a + 1) ≤ b = omega arith in let scaled = mul-le-mul_left size low in omega arith

some_size : (error : ℤ) → (error ≡ pos 0 → ⊥) → 1 ≤ unsigned_abs error
some_size (pos zero) some = absurd (some refl)
some_size (pos (suc n)) some = omega arith
some_size (negsuc n) some = omega arith

not_least : (survey : Survey) (heights : List ℕ → ℤ) (group : Observed → Bool) (point : List ℕ) (error : ℤ) → ((inside : List ℕ → Bool) × IsOutweighed survey group inside) → All (λ o. group o ≡ true → ErrsAt point error heights o) survey.observations → All (λ o. group o ≡ false → residual o heights ≡ pos 0) survey.observations → (error ≡ pos 0 → ⊥) → Least survey.observations survey.benchmarks survey.weights heights → ⊥
not_least survey heights group point error (inside, word) errs fits some best =
    let few = moved_cost survey heights group inside point error errs fits in
    let most = errs_cost survey heights group point error errs in
    let least = best.least (moved inside (way (inside point) error) heights) (shifted_keeps survey.benchmarks inside (way (inside point) error) heights word.is.free best.kept) in
    let more = gains (unsigned_abs error) (rest survey group inside) (own survey group inside) (some_size error some) word.less in
    omega arith

pub drags : (survey : Survey) (truth heights : List ℕ → ℤ) (mistake : SharedMistake) (point : List ℕ) (error : ℤ) → IsSharedMistake survey (has_end point) mistake → (mistake ≡ Drags) ⊎ (mistake ≡ Unchecked) → FitsButAt survey point error truth → All (λ o. o.station ≢ o.target) survey.observations → (error ≡ pos 0 → ⊥) → Least survey.observations survey.benchmarks survey.weights heights → All (λ name. name ≢ point → heights name ≡ truth name) (points_of survey) → ⊥
drags survey truth heights mistake point error word either but distinct some best same =
    let alike = same_residuals survey.observations survey.benchmarks (tabled point error truth) heights (λ k d within. at (slice_index_or (points_of survey) k d) (same k d within)) in
    not_least survey heights (has_end point) point error (outweighs survey (has_end point) mistake word either)
    (λ k d within has. turn (slice_index_or survey.observations k d) (alike k d within) (tabled_errs point error truth (slice_index_or survey.observations k d) (distinct k d within) (but.fit k d within) has))
    (λ k d within out. alike k d within ∙ tabled_fits point error truth (slice_index_or survey.observations k d) (but.fit k d within) out)
    some best
  where
    at : (name : List ℕ) → (name ≢ point → heights name ≡ truth name) → heights name ≡ tabled point error truth name
    at name off = by (bytes_eq name point) refl
      where
        by : (b : Bool) → bytes_eq name point ≡ b → heights name ≡ tabled point error truth name
        by true e =
            let is_it = (bytes_eq-Decides name point).0 e in
            ap heights is_it ∙ best.kept point (truth point +ℤ error) but.off.here ∙ sym (ap (λ (b : Bool). if b then truth point +ℤ error else truth name) e)
        by false e = off (it_differs name point e) ∙ sym (tabled_off point error truth name e)

    turn : (o : Observed) → residual o heights ≡ residual o (tabled point error truth) → ErrsAt point error (tabled point error truth) o → ErrsAt point error heights o
    turn o alike (inl (here, err)) = inl (here, alike ∙ err)
    turn o alike (inr (here, err)) = inr (here, alike ∙ err)
