-- A mistake at a point that nothing checks: a set that the group alone crosses goes along, and no residual changes.
use Rattle.std.proofs.Common.{◌≡◌, ℕ, Bool, true, false, ◌+◌, ◌*◌, ◌≤◌, ℤ, pos, ◌+ℤ◌, ◌-ℤ◌, List, [], ◌∷◌, map, All, ◌⊎◌, ◌↔◌, inl, inr, if◌then◌else◌, bytes_eq, unsigned_abs, refl, ap, sym, ◌∙◌, arith}
use Rattle.std.specs.Prelude.{slice_index_or}
use Rattle.std.specs.List.{AllByRecursion}
use Rattle.std.proofs.Math.Path.{fun_ext}
use Rattle.std.proofs.lemmas.Bool.{false≢true}
use Rattle.std.proofs.lemmas.Int.{ints}
use Rattle.std.proofs.lemmas.List.Elements.{All-from_recursion, recursion_from_All}
use Rattle.std.proofs.lemmas.List.Sums.{sum_by-cons}
use Rattle.std.proofs.lemmas.Slice.Eq.{bytes_eq-Decides}
use Rattle.th_observations.specs.Observed.{Observed}
use Rattle.th_tables.specs.Rows.{AreWeights, BenchmarkRows, WeightRows, weight_of}
use Rattle.th_tables.proofs.WeightLemmas.{heavy}
use Rattle.th_network.specs.Networks.{Survey}
use Rattle.th_reliability.specs.Blunders.{weight_in}
use Rattle.th_reliability.specs.Groups.{IsGroupControl, own_cut, rest_cut}
use Rattle.th_reliability.specs.SharedMistakes.{IsFreeWithPoint}
use Rattle.th_reliability.specs.Singles.{CrossesAlone}
use Rattle.th_reliability.proofs.ControlLemmas.{own_low}
use Rattle.th_network.specs.Heights.{Least, cost, residual}
use Rattle.th_reliability.specs.Cuts.{IsFreeSet, crosses, differ}
use Rattle.th_reliability.specs.Moves.{erred, moved, way}
use Rattle.th_reliability.proofs.ShiftLemmas.{shifted_keeps}

-- ---- one observation
kept_level : (s t : Bool) (more d hs ht : ℤ) → differ s t ≡ false → (d +ℤ pos 0) -ℤ ((ht +ℤ (if t then more else pos 0)) -ℤ (hs +ℤ (if s then more else pos 0))) ≡ d -ℤ (ht -ℤ hs)
kept_level true true more d hs ht e = omega (arith, ints)
kept_level false false more d hs ht e = omega (arith, ints)
kept_level true false more d hs ht e = absurd (false≢true (sym e))
kept_level false true more d hs ht e = absurd (false≢true (sym e))

kept_from : (s t from : Bool) (error d hs ht : ℤ) → s ≡ from → differ s t ≡ true → (d +ℤ error) -ℤ ((ht +ℤ (if t then way from error else pos 0)) -ℤ (hs +ℤ (if s then way from error else pos 0))) ≡ d -ℤ (ht -ℤ hs)
kept_from true true from error d hs ht at e = absurd (false≢true e)
kept_from false false from error d hs ht at e = absurd (false≢true e)
kept_from true false false error d hs ht at e = absurd (false≢true (sym at))
kept_from false true true error d hs ht at e = absurd (false≢true at)
kept_from true false true error d hs ht at e = omega (arith, ints)
kept_from false true false error d hs ht at e = omega (arith, ints)

kept_to : (s t from : Bool) (error d hs ht : ℤ) → t ≡ from → differ s t ≡ true → (d +ℤ (pos 0 -ℤ error)) -ℤ ((ht +ℤ (if t then way from error else pos 0)) -ℤ (hs +ℤ (if s then way from error else pos 0))) ≡ d -ℤ (ht -ℤ hs)
kept_to true true from error d hs ht at e = absurd (false≢true e)
kept_to false false from error d hs ht at e = absurd (false≢true e)
kept_to false true false error d hs ht at e = absurd (false≢true (sym at))
kept_to true false true error d hs ht at e = absurd (false≢true at)
kept_to false true true error d hs ht at e = omega (arith, ints)
kept_to true false false error d hs ht at e = omega (arith, ints)

-- the group's observations are at the point, and they cross the set, and no others do
record IsAlone (group : Observed → Bool) (point : List ℕ) (inside : List ℕ → Bool) (o : Observed) : Type 0 where
  at : group o ≡ true → (o.station ≡ point) ⊎ (o.target ≡ point)
  alone : crosses inside o ≡ group o

same_residual : (group : Observed → Bool) (point : List ℕ) (error : ℤ) (inside : List ℕ → Bool) (heights : List ℕ → ℤ) (o : Observed) → IsAlone group point inside o → residual (erred group point error o) (moved inside (way (inside point) error) heights) ≡ residual o heights
same_residual group point error inside heights o is = by (group o) (bytes_eq o.station point) refl refl
  where
    after : ℤ → ℤ
    after more = (o.difference +ℤ more) -ℤ (moved inside (way (inside point) error) heights o.target -ℤ moved inside (way (inside point) error) heights o.station)

    other_end : bytes_eq o.station point ≡ false → (o.station ≡ point) ⊎ (o.target ≡ point) → o.target ≡ point
    other_end e (inl same) = absurd (false≢true (sym e ∙ (bytes_eq-Decides o.station point).1 same))
    other_end e (inr same) = same

    by : (own from : Bool) → group o ≡ own → bytes_eq o.station point ≡ from → residual (erred group point error o) (moved inside (way (inside point) error) heights) ≡ residual o heights
    by false from e f =
        ap (λ (b : Bool). after (if b then (if bytes_eq o.station point then error else pos 0 -ℤ error) else pos 0)) e
        ∙ kept_level (inside o.station) (inside o.target) (way (inside point) error) o.difference (heights o.station) (heights o.target) (is.alone ∙ e)
    by true true e f =
        ap (λ (b : Bool). after (if b then (if bytes_eq o.station point then error else pos 0 -ℤ error) else pos 0)) e
        ∙ ap (λ (b : Bool). after (if b then error else pos 0 -ℤ error)) f
        ∙ kept_from (inside o.station) (inside o.target) (inside point) error o.difference (heights o.station) (heights o.target) (ap inside ((bytes_eq-Decides o.station point).0 f)) (is.alone ∙ e)
    by true false e f =
        ap (λ (b : Bool). after (if b then (if bytes_eq o.station point then error else pos 0 -ℤ error) else pos 0)) e
        ∙ ap (λ (b : Bool). after (if b then error else pos 0 -ℤ error)) f
        ∙ kept_to (inside o.station) (inside o.target) (inside point) error o.difference (heights o.station) (heights o.target) (ap inside (other_end f (is.at e))) (is.alone ∙ e)

-- ---- all of them
same_cost : (weights : WeightRows) (group : Observed → Bool) (point : List ℕ) (error : ℤ) (inside : List ℕ → Bool) (heights : List ℕ → ℤ) (observations : List Observed) → AllByRecursion (IsAlone group point inside) observations → cost (map (erred group point error) observations) weights (moved inside (way (inside point) error) heights) ≡ cost observations weights heights
same_cost weights group point error inside heights [] is = refl
same_cost weights group point error inside heights (o ∷ observations) is =
    let w = λ (x : Observed). weight_of weights x.station x.target in
    let a = sum_by-cons (λ x. w x * unsigned_abs (residual x (moved inside (way (inside point) error) heights))) (erred group point error o) (map (erred group point error) observations) in
    let b = sum_by-cons (λ x. w x * unsigned_abs (residual x heights)) o observations in
    let one = ap (λ r. w o * unsigned_abs r) (same_residual group point error inside heights o is.0) in
    let rest = same_cost weights group point error inside heights observations is.1 in
    omega arith

back_again : (inside : List ℕ → Bool) (more : ℤ) (heights : List ℕ → ℤ) → moved inside more (moved inside (pos 0 -ℤ more) heights) ≡ heights
back_again inside more heights = fun_ext (λ name. by (inside name) (heights name))
  where
    by : (b : Bool) (h : ℤ) → (h +ℤ (if b then pos 0 -ℤ more else pos 0)) +ℤ (if b then more else pos 0) ≡ h
    by true h = omega (arith, ints)
    by false h = omega (arith, ints)

pub unmarked : (observations : List Observed) (benchmarks : BenchmarkRows) (weights : WeightRows) (heights : List ℕ → ℤ) (group : Observed → Bool) (inside : List ℕ → Bool) (point : List ℕ) (error : ℤ) → IsFreeSet benchmarks inside → All (λ o. crosses inside o ≡ group o) observations → All (λ o. group o ≡ true → (o.station ≡ point) ⊎ (o.target ≡ point)) observations → Least observations benchmarks weights heights → Least (map (erred group point error) observations) benchmarks weights (moved inside (way (inside point) error) heights) × All (λ o. residual (erred group point error o) (moved inside (way (inside point) error) heights) ≡ residual o heights) observations
unmarked observations benchmarks weights heights group inside point error free alone at best = (
  record {
    kept = shifted_keeps benchmarks inside more heights free best.kept;
    least = λ others kept.
        let back = moved inside (pos 0 -ℤ more) others in
        let here = same_cost weights group point error inside heights observations all in
        let there = same_cost weights group point error inside back observations all in
        let same = ap (λ h. cost (map (erred group point error) observations) weights h) (back_again inside more others) in
        let least = best.least back (shifted_keeps benchmarks inside (pos 0 -ℤ more) others free kept) in
        omega arith;
  },
  λ k d within. same_residual group point error inside heights (slice_index_or observations k d) (is k d within),
)
  where
    more : ℤ
    more = way (inside point) error

    is : All (IsAlone group point inside) observations
    is k d within = record { at = at k d within; alone = alone k d within }

    all : AllByRecursion (IsAlone group point inside) observations
    all = recursion_from_All (IsAlone group point inside) observations is

-- ---- which sets only the group crosses
one_alone : (w own rest weight : ℕ) (b c : Bool) → 1 ≤ w → own ≤ weight → ((if b then 0 else (if c then w else 0)) + rest) ≤ 0 → ((if b then w else 0) + weight) ≤ ((if b then (if c then w else 0) else 0) + own) → (c ≡ b) × (rest ≤ 0) × (weight ≤ own)
one_alone w own rest weight true true heavy low none all = (refl, omega arith, omega arith)
one_alone w own rest weight false false heavy low none all = (refl, omega arith, omega arith)
one_alone w own rest weight true false heavy low none all = absurd (omega arith)
one_alone w own rest weight false true heavy low none all = absurd (omega arith)

alone_by : (weights : WeightRows) (group : Observed → Bool) (inside : List ℕ → Bool) (observations : List Observed) → ((station target : List ℕ) → 1 ≤ weight_of weights station target) → rest_cut observations weights group inside ≤ 0 → weight_in observations weights group ≤ own_cut observations weights group inside → AllByRecursion (λ o. crosses inside o ≡ group o) observations
alone_by weights group inside [] heavy none all = tt
alone_by weights group inside (o ∷ observations) heavy none all =
    let w = λ (x : Observed). weight_of weights x.station x.target in
    let a = sum_by-cons (λ x. if group x then 0 else (if crosses inside x then w x else 0)) o observations in
    let b = sum_by-cons (λ x. if group x then w x else 0) o observations in
    let c = sum_by-cons (λ x. if group x then (if crosses inside x then w x else 0) else 0) o observations in
    let low = own_low observations weights group inside in
    let one = one_alone (w o) (own_cut observations weights group inside) (rest_cut observations weights group inside) (weight_in observations weights group) (group o) (crosses inside o) (heavy o.station o.target) low (omega arith) (omega arith) in
    (one.0, alone_by weights group inside observations heavy one.1 one.2)

pub alone : (survey : Survey) (group : Observed → Bool) (inside : List ℕ → Bool) → AreWeights survey.weights → CrossesAlone survey group inside → All (λ o. crosses inside o ≡ group o) survey.observations
alone survey group inside are is =
    let whole = is.whole in
    let none = is.none in
    All-from_recursion (λ o. crosses inside o ≡ group o) survey.observations (alone_by survey.weights group inside survey.observations (heavy survey.weights are) (omega arith) (omega arith))

-- a group has such a set just where its control is 0
pub control_none : (survey : Survey) (group : Observed → Bool) → IsGroupControl survey.observations survey.benchmarks survey.weights group 0 ↔ ((inside : List ℕ → Bool) × IsFreeWithPoint survey inside × CrossesAlone survey group inside)
control_none survey group = (
  λ is_control.
      let low = own_low survey.observations survey.weights group is_control.reached.0 in
      let reached = is_control.reached.3 in
      (is_control.reached.0, record { free = is_control.reached.1; point = is_control.reached.2 }, record { whole = omega arith; none = omega arith }),
  λ set. record {
    reached = (set.0, set.1.free, set.1.point, let whole = set.2.whole in let none = set.2.none in omega arith);
    least = λ other name free listed there. let low = own_low survey.observations survey.weights group other in omega arith;
  },
)
