use Rattle.std.proofs.Common.{unsigned_abs, ◌*◌, arith, ◌≡◌, ◌⊎◌, inl, inr, ℕ, List, ◌+◌, ◌<◌, ◌∙◌, length, ap, sym, Bool, true, false, ℤ, pos, ◌≤ℤ◌, ◌<ℤ◌, to_z, of_z, w64}
use Rattle.std.proofs.lemmas.Int.{ints}
use Rattle.std.specs.Int.{is_positive}
use Rattle.th_entries.specs.Below.{count_below}
use Rattle.th_network.specs.Limits.{height_limit}
use Rattle.th_remarks.specs.Heights.{gap_at}
use Rattle.th_remarks.proofs.BelowLemmas.{count-le, count_next, split}
use Rattle.th_remarks.proofs.GapLemmas.{below_next, equal, named, not_above, weaken}
use Rattle.th_remarks.proofs.gaps.many_heights.Goals as goal
use Rattle.th_remarks.proofs.gaps.many_heights.Goals.{then-gap-gt0, else-gap-gt0, then-gap-apart, else-gap-apart}

pub overflow_add-points : goal.overflow_add-points
overflow_add-points c =
    let test = λ (place : ℕ). is_positive (gap_at c.args.low.now c.args.high.now place) in
    let few = c.points-names.ensures.network.few_points in
    omega (arith, c.loop-k.invariant.points, count-le test c.loop-k.k, c.loop-k-test.true, c.requires.low.each, few)

pub loop-k-preserved : goal.loop-k-preserved
loop-k-preserved c = record {
  points = points;
  small = small;
  positive = positive;
  at = at;
  widest = widest;
  first = first;
}
  where
    low : List ℤ
    low = c.args.low.now

    high : List ℤ
    high = c.args.high.now

    test : ℕ → Bool
    test place = is_positive (gap_at low high place)

    gap : to_z w64 (of_z w64 c.gap_at-gap.result) ≡ gap_at low high c.loop-k.k
    gap = omega (arith, ints, c.gap_at-gap.type_inv) ∙ c.gap_at-gap.ensures.gap

    points : c.if-gap-gt0.points ≡ count_below test (c.loop-k.k + 1)
    points = elim c.if-gap-gt0.branch [
      | then-gap-gt0 w ↦ w.points-is ∙ ap (λ own. own + 1) c.loop-k.invariant.points ∙ sym (count_next test c.loop-k.k true (rw gap at w.if-gap-gt0.true))
      | else-gap-gt0 w ↦ w.points-is ∙ c.loop-k.invariant.points ∙ sym (count_next test c.loop-k.k false (rw gap at w.if-gap-gt0.false) ∙ omega arith)
    ]

    -- below the place that comes next, or there
    last : (other : ℕ) → other < c.loop-k.k + 1 → (other < c.loop-k.k) ⊎ (other ≡ c.loop-k.k)
    last other within = split other c.loop-k.k within

    small : unsigned_abs (to_z w64 c.if-gap-apart.apart-bits) < 2 * height_limit
    small = elim c.if-gap-apart.branch [
      | then-gap-apart w ↦ rw (w.apart-is, gap, ← c.gap_at-gap.ensures.gap) c.gap_at-gap.ensures.small
      | else-gap-apart w ↦ rw w.apart-is c.loop-k.invariant.small
    ]

    positive : pos 0 ≤ℤ to_z w64 c.if-gap-apart.apart-bits
    positive = elim c.if-gap-apart.branch [
      | then-gap-apart w ↦ rw w.apart-is (weaken _ _ (below_next _ _ _ c.loop-k.invariant.positive w.if-gap-apart.true))
      | else-gap-apart w ↦ rw w.apart-is c.loop-k.invariant.positive
    ]

    at : pos 0 <ℤ to_z w64 c.if-gap-apart.apart-bits → (c.if-gap-apart.place < c.loop-k.k + 1) × (to_z w64 c.if-gap-apart.apart-bits ≡ gap_at low high c.if-gap-apart.place)
    at = elim c.if-gap-apart.branch [
      | then-gap-apart w ↦ λ some. (omega (arith, w.place-is), w.apart-is ∙ gap ∙ ap (gap_at low high) (sym w.place-is))
      | else-gap-apart w ↦ λ some.
          let before = c.loop-k.invariant.at (rw w.apart-is at some) in
          (omega (arith, w.place-is, before.0), w.apart-is ∙ before.1 ∙ ap (gap_at low high) (sym w.place-is))
    ]

    widest : (other : ℕ) → other < c.loop-k.k + 1 → gap_at low high other ≤ℤ to_z w64 c.if-gap-apart.apart-bits
    widest = elim c.if-gap-apart.branch [
      | then-gap-apart w ↦ λ other within. elim (last other within) [
        | inl earlier ↦ rw w.apart-is (weaken _ _ (below_next _ _ _ (c.loop-k.invariant.widest other earlier) w.if-gap-apart.true))
        | inr same ↦ rw (w.apart-is, gap, same) (equal (gap_at low high c.loop-k.k))
      ]
      | else-gap-apart w ↦ λ other within. elim (last other within) [
        | inl earlier ↦ rw w.apart-is (c.loop-k.invariant.widest other earlier)
        | inr same ↦ rw (w.apart-is, same) (not_above _ _ (rw gap at w.if-gap-apart.false))
      ]
    ]

    first : (other : ℕ) → other < c.if-gap-apart.place → gap_at low high other <ℤ to_z w64 c.if-gap-apart.apart-bits
    first = elim c.if-gap-apart.branch [
      | then-gap-apart w ↦ λ other earlier.
          let before : other < c.loop-k.k = omega (arith, earlier, w.place-is) in
          rw w.apart-is (below_next _ _ _ (c.loop-k.invariant.widest other before) w.if-gap-apart.true)
      | else-gap-apart w ↦ λ other earlier.
          let before : other < c.loop-k.place = omega (arith, earlier, w.place-is) in
          rw w.apart-is (c.loop-k.invariant.first other before)
    ]

pub returns : goal.returns
returns c =
    let some : pos 0 <ℤ to_z w64 c.loop-k.apart-bits = grind (arith, ints, c.if-apart-eq0.false, c.loop-k.invariant.positive) in
    let above : c.args.limit <ℤ to_z w64 c.loop-k.apart-bits = grind (arith, ints, c.if-apart-limit.false, c.ranges.limit) in
    let at = c.loop-k.invariant.at some in
    let all : c.loop-k.k ≡ length c.args.low.now = omega (arith, c.loop-k-test.false, c.loop-k.auto.k-end) in (
      some,
      above,
      record {
        points = c.loop-k.invariant.points ∙ ap (count_below (λ place. is_positive (gap_at c.args.low.now c.args.high.now place))) all;
        place = c.loop-k.place;
        within = omega (arith, at.0, all);
        name = named _ _ _ _ c.points-names.ensures.points (omega (arith, at.0, all, c.requires.low.each, ap length c.points-names.ensures.points)) c.index-names-place.is;
        apart = at.1;
        widest = λ other within. c.loop-k.invariant.widest other (omega (arith, within, all));
        first = c.loop-k.invariant.first;
      },
    )
