-- Observations in the order of books and lines, and what the sights among them come to.
use Rattle.std.proofs.Common.{◌≡◌, ◌<◌, ◌≤◌, ◌+◌, ◌-◌, [], ℕ, zero, suc, pos, Bool, true, false, List, get_or, if◌then◌else◌, length, subst, sum_by, take, sym, ap, ◌∙◌, arith}
use Rattle.std.specs.List.Sorted.{IsPartitionedBy}
use Rattle.std.proofs.lemmas.Bool.Decides.{nat_tests}
use Rattle.std.proofs.lemmas.List.{take_all}
use Rattle.std.proofs.lemmas.List.Sums.{sum_by_more}
use Rattle.th_observations.specs.Observed.{Observed}
use Rattle.th_reliability.specs.Sights.{in_sights}
use Rattle.th_reliability.specs.declared.sights.Sights.{Sights}
use Rattle.th_reliability.specs.Inside.Runs.{AreInOrder, IsNoLater, is_before}
use Rattle.th_reliability.specs.Runs.{HoldsSights}

no_later_on : (o other last : Observed) → IsNoLater o other → IsNoLater other last → IsNoLater o last
no_later_on o other last first next = (omega arith, λ same. omega (arith, same, first.0, first.1, next.0, next.1))

no_later_far : (observations : List Observed) → AreInOrder observations → (i m : ℕ) (d : Observed) → i + m < length observations → IsNoLater (get_or observations i d) (get_or observations (i + m) d)
no_later_far observations order i zero d within =
    let here : i ≡ i + zero = omega arith in
    subst (λ (j : ℕ). IsNoLater (get_or observations i d) (get_or observations j d)) here (omega arith, λ same. omega arith)
no_later_far observations order i (suc m) d within =
    let next : i + m + 1 ≡ i + suc m = omega arith in
    subst (λ (j : ℕ). IsNoLater (get_or observations i d) (get_or observations j d)) next
    (no_later_on (get_or observations i d) (get_or observations (i + m) d) (get_or observations (i + m + 1) d) (no_later_far observations order i m d (omega arith)) (order (i + m) d (omega arith)))

before_too : (book line : ℕ) (o other : Observed) → IsNoLater o other → is_before book line other ≡ true → is_before book line o ≡ true
before_too book line o other later before = let a = later.0 in let b = later.1 in grind (arith, nat_tests)

-- those before a line come first
pub parted : (observations : List Observed) (book line : ℕ) → AreInOrder observations → IsPartitionedBy (is_before book line) observations
parted observations book line order i j d le within before =
    let at : i + (j - i) ≡ j = omega arith in
    before_too book line (get_or observations i d) (get_or observations j d)
    (subst (λ (j : ℕ). IsNoLater (get_or observations i d) (get_or observations j d)) at (no_later_far observations order i (j - i) d (omega arith))) before

module _ (observations : List Observed) (sights : Sights) (value : Observed → ℕ) where
  -- what the sights among the first observations come to
  abbrev pub sum_to : ℕ → ℕ
  sum_to n = sum_by (λ (o : Observed). if in_sights sights o then value o else 0) (take n observations)

  nowhere : Observed
  nowhere = record { station = []; target = []; difference = pos 0; book = 0; line = 0 }

  none_from : (n m : ℕ) → n + m ≤ length observations → ((k : ℕ) (d : Observed) → n ≤ k → k < n + m → in_sights sights (get_or observations k d) ≡ false) → sum_to (n + m) ≡ sum_to n
  none_from n zero within none = let here : n + zero ≡ n = omega arith in ap sum_to here
  none_from n (suc m) within none =
      let next : n + suc m ≡ n + m + 1 = omega arith in
      let o : Observed = get_or observations (n + m) nowhere in
      let more : sum_to (n + m + 1) ≡ sum_to (n + m) + (if in_sights sights o then value o else 0) =
      sum_by_more (λ (o : Observed). if in_sights sights o then value o else 0) observations (n + m) nowhere (omega arith) in
      let nothing : (if in_sights sights o then value o else 0) ≡ 0 = ap (λ (b : Bool). if b then value o else 0) (none (n + m) nowhere (omega arith) (omega arith)) in
      let before : sum_to (n + m) ≡ sum_to n = none_from n m (omega arith) (λ k d from to. none k d from (omega arith)) in
      ap sum_to next ∙ omega (arith, more, nothing, before)

  module _ (start end : ℕ) (run : HoldsSights observations sights (start, end)) where
    -- the sights come to nothing before their run
    pub none_before : 0 ≡ sum_to start
    none_before =
        let all : 0 + start ≡ start = omega arith in
        sym (none_from 0 start (omega (arith, run.ordered, run.within)) (λ k d from to. run.below k d (omega arith))) ∙ ap sum_to all

    -- and to nothing behind it
    pub none_behind : sum_by (λ (o : Observed). if in_sights sights o then value o else 0) observations ≡ sum_to end
    none_behind =
        let whole : length observations ≡ end + (length observations - end) = omega (arith, run.within) in
        ap (λ (all : List Observed). sum_by (λ (o : Observed). if in_sights sights o then value o else 0) all) (sym (take_all (length observations) observations (omega arith)))
        ∙ ap sum_to whole ∙ none_from end (length observations - end) (omega arith) (λ k d from to. run.above k d from (omega arith))
