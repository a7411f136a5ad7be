-- Tied numbers: a change of the one is a change of the other, with points moved along.
use Rattle.std.proofs.Common.{◌≡◌, ℕ, Bool, true, false, ◌*◌, ◌≤◌, ℤ, pos, negsuc, ◌+ℤ◌, ◌-ℤ◌, ◌*ℤ◌, ◌⊎◌, inl, inr, List, [], ◌∷◌, IsSome, if◌then◌else◌, unsigned_abs, refl, ap, ◌∙◌, sym, subst, arith}
use Rattle.std.specs.Prelude.{slice_index_or}
use Rattle.std.specs.List.{AllByRecursion}
use Rattle.std.proofs.lemmas.Int.{ints}
use Rattle.std.proofs.lemmas.List.Sums.{sum_by-cons}
use Rattle.std.proofs.lemmas.List.Elements.{recursion_from_All}
use Rattle.std.proofs.Math.IntN.{*ℤ_comm, *ℤ-zero}
use Rattle.th_observations.specs.Observed.{Observed}
use Rattle.th_tables.specs.Rows.{WeightRows, weight_of}
use Rattle.th_network.specs.Heights.{residual}
use Rattle.th_network.specs.Networks.{Survey}
use Rattle.th_network.proofs.Products.{times-plus, times-minus, times_swap}
use Rattle.th_reliability.specs.Sights.{in_sights}
use Rattle.th_reliability.specs.declared.sights.Sights.{Sights}
use Rattle.th_changes.specs.declared.numbers.Number.{Number}
use Rattle.th_changes.specs.declared.numbers.Number.TheVariants.{Added, Subtracted}
use Rattle.th_changes.specs.Numbers.{touch, changed}
use Rattle.th_changes.specs.Freed.{Costs, IsFreed, IsProposed, Keeps, cost_of}
use Rattle.th_explain_laws.specs.Ties.{AreTied}
use Rattle.th_changes.proofs.Tilts.{tilted}
use Rattle.th_changes.proofs.Changes.{lowered, raised, lowered_raised, cost_changed, keeps_lowered, keeps_raised}

-- ---- the tie is mutual
pub turned : (q a b kt ks : ℤ) → ((q ≡ pos 1) ⊎ (q ≡ negsuc 0)) → a ≡ q *ℤ b +ℤ (kt -ℤ ks) → b ≡ q *ℤ a +ℤ ((pos 0 -ℤ q *ℤ kt) -ℤ (pos 0 -ℤ q *ℤ ks))
turned q a b kt ks turn same =
    elim turn [
      | inl up ↦
          let x = ap (λ t. t *ℤ a) up in
          let y = ap (λ t. t *ℤ b) up in
          let u = ap (λ t. t *ℤ kt) up in
          let v = ap (λ t. t *ℤ ks) up in
          omega (arith, ints)
      | inr down ↦
          let x = ap (λ t. t *ℤ a) down in
          let y = ap (λ t. t *ℤ b) down in
          let u = ap (λ t. t *ℤ kt) down in
          let v = ap (λ t. t *ℤ ks) down in
          omega (arith, ints)
    ]

unfoldable pub tied_back : (survey : Survey) (first second : Number) → AreTied survey first second → AreTied survey second first
tied_back survey first second tied = record {
  turn = tied.turn;
  is_turn = tied.is_turn;
  moved = λ name. pos 0 -ℤ tied.turn *ℤ tied.moved name;
  benchmarks_stay = λ name some.
      let none = ap (λ z. tied.turn *ℤ z) (tied.benchmarks_stay name some) ∙ *ℤ-zero tied.turn in
      omega (arith, ints);
  same = λ k d within.
      let o = slice_index_or survey.observations k d in
      turned tied.turn (touch first o) (touch second o) (tied.moved o.target) (tied.moved o.station) tied.is_turn (tied.same k d within);
}

-- ---- the cost is the same
abbrev along : (List ℕ → ℤ) → ℤ → (List ℕ → ℤ) → List ℕ → ℤ
along moved x heights name = heights name -ℤ x *ℤ moved name

one_tied : (x q a b d ht hs kt ks : ℤ) → a ≡ q *ℤ b +ℤ (kt -ℤ ks) → d -ℤ (ht -ℤ hs) +ℤ x *ℤ a ≡ d -ℤ ((ht -ℤ x *ℤ kt) -ℤ (hs -ℤ x *ℤ ks)) +ℤ (x *ℤ q) *ℤ b
one_tied x q a b d ht hs kt ks same =
    let e = ap (λ z. x *ℤ z) same ∙ times-plus x (q *ℤ b) (kt -ℤ ks) in
    let f = times-minus x kt ks in
    let g : (x *ℤ q) *ℤ b ≡ x *ℤ (q *ℤ b) = *ℤ_comm (x *ℤ q) b ∙ times_swap b x q ∙ ap (λ z. x *ℤ z) (*ℤ_comm b q) in
    omega (arith, ints)

tied_cost : (first second : Number) (x q : ℤ) (moved : List ℕ → ℤ) (weights : WeightRows) (heights : List ℕ → ℤ) (observations : List Observed) → AllByRecursion (λ o. touch first o ≡ q *ℤ touch second o +ℤ (moved o.target -ℤ moved o.station)) observations → tilted (λ o. x *ℤ touch first o) observations weights heights ≡ tilted (λ o. (x *ℤ q) *ℤ touch second o) observations weights (along moved x heights)
tied_cost first second x q moved weights heights [] same = refl
tied_cost first second x q moved weights heights (o ∷ observations) same =
    let w = weight_of weights o.station o.target in
    let a = sum_by-cons (λ o. weight_of weights o.station o.target * unsigned_abs (residual o heights +ℤ x *ℤ touch first o)) o observations in
    let b = sum_by-cons (λ o. weight_of weights o.station o.target * unsigned_abs (residual o (along moved x heights) +ℤ (x *ℤ q) *ℤ touch second o)) o observations in
    let one = ap (λ r. w * unsigned_abs r) (one_tied x q (touch first o) (touch second o) o.difference (heights o.target) (heights o.station) (moved o.target) (moved o.station) same.0) in
    let rest = tied_cost first second x q moved weights heights observations same.1 in
    omega arith

keeps_along : (survey : Survey) (first second : Number) (tied : AreTied survey first second) (x : ℤ) (heights : List ℕ → ℤ) → Keeps survey heights → Keeps survey (along tied.moved x heights)
keeps_along survey first second tied x heights kept name height listed =
    let at = kept name height listed in
    let none = ap (λ z. x *ℤ z) (tied.benchmarks_stay name (subst IsSome (sym listed) refl)) ∙ *ℤ-zero x in
    omega (arith, ints)

pub carried_over : (survey : Survey) (first second : Number) (tied : AreTied survey first second) (x : ℤ) (total : ℕ) → Costs survey first x total → Costs survey second (x *ℤ tied.turn) total
carried_over survey first second tied x total (heights, kept, same) = (
  raised second y others,
  keeps_raised survey second y others (keeps_along survey first second tied x before (keeps_lowered survey first x heights kept)),
  cost_changed survey second y (raised second y others)
      ∙ ap (λ h. tilted (λ o. y *ℤ touch second o) survey.observations survey.weights h) (lowered_raised second y others)
      ∙ sym (tied_cost first second x tied.turn tied.moved survey.weights before survey.observations (recursion_from_All (λ o. touch first o ≡ tied.turn *ℤ touch second o +ℤ (tied.moved o.target -ℤ tied.moved o.station)) survey.observations tied.same))
      ∙ sym (cost_changed survey first x heights)
      ∙ same,
)
  where
    y : ℤ
    y = x *ℤ tied.turn

    before : List ℕ → ℤ
    before = lowered first x heights

    others : List ℕ → ℤ
    others = along tied.moved x before

pub tied_freed : (survey : Survey) (first second : Number) (freed : ℕ) → AreTied survey first second → IsFreed survey first freed → IsFreed survey second freed
tied_freed survey first second freed tied is_freed = record {
  reached = there is_freed.reached;
  least = λ y heights kept. back y (y *ℤ (tied_back survey first second tied).turn) heights (carried_over survey second first (tied_back survey first second tied) y (cost_of (changed second y survey) heights) (heights, kept, refl));
}
  where
    there : ((x : ℤ) × Costs survey first x freed) → (y : ℤ) × Costs survey second y freed
    there (x, costs) = (x *ℤ tied.turn, carried_over survey first second tied x freed costs)

    back : (y z : ℤ) (heights : List ℕ → ℤ) → Costs survey first z (cost_of (changed second y survey) heights) → freed ≤ cost_of (changed second y survey) heights
    back y z heights (others, kept, same) =
        let least = is_freed.least z others kept in
        omega arith

pub tied_proposed : (survey : Survey) (first second : Number) (x : ℤ) (tied : AreTied survey first second) → IsProposed survey first x → IsProposed survey second (x *ℤ tied.turn)
tied_proposed survey first second x tied proposed = record {
  freed = proposed.freed;
  is_freed = tied_freed survey first second proposed.freed tied proposed.is_freed;
  reached = carried_over survey first second tied x proposed.freed proposed.reached;
}

-- ---- what is added to some sights, and what is subtracted from them
unfoldable pub lengths_tied : (survey : Survey) (sights : Sights) → AreTied survey (Added sights) (Subtracted sights)
lengths_tied survey sights = record {
  turn = negsuc 0;
  is_turn = inr refl;
  moved = λ name. pos 0;
  benchmarks_stay = λ name some. refl;
  same = λ k d within. by (in_sights sights (slice_index_or survey.observations k d));
}
  where
    by : (b : Bool) → (if b then pos 1 else pos 0) +ℤ pos 0 -ℤ pos 0 ≡ negsuc 0 *ℤ ((if b then negsuc 0 else pos 0) +ℤ pos 0 -ℤ pos 0) +ℤ (pos 0 -ℤ pos 0)
    by true = refl
    by false = refl
