use Rattle.std.proofs.Common.{◌≡◌, ◌<◌, ◌≤◌, ◌+◌, ◌⊎◌, inl, inr, ◌∙◌, ℕ, List, length, refl, ap, sym, arith}
use Rattle.std.proofs.lemmas.Bool.{cases_lt}
use Rattle.std.proofs.lemmas.Option.{slice_get_read}
use Rattle.th_limits.specs.Limits.{max_observations}
use Rattle.th_observations.specs.Observed.{Observed}
use Rattle.th_remarks.specs.Repeats.{shared}
use Rattle.th_remarks.proofs.repeats.repeat_of.Goals as goal
use Rattle.th_remarks.proofs.repeats.repeat_of.Goals.{then-own-count, else-own-count}

pub loop-k-preserved : goal.loop-k-preserved
loop-k-preserved c = record {
  small = small;
  at = at;
  most = most;
  first = first;
}
  where
    own : c.shared-own.result ≡ shared c.args.observations.now c.args.book (c.loop-k.k + 1)
    own = c.shared-own.ensures.shared (c.loop-k.k + 1)
        (c.requires.said c.loop-k.k c.index-before-k.result (slice_get_read c.args.before.now (length c.args.before.now) c.loop-k.k c.index-before-k.result refl c.loop-k-test.true c.index-before-k.is))

    last : (other : ℕ) → other ≤ c.loop-k.k + 1 → (other ≤ c.loop-k.k) ⊎ (other ≡ c.loop-k.k + 1)
    last other within = elim (cases_lt c.loop-k.k other) [
      | inl above ↦ inr (omega (arith, above, within))
      | inr below ↦ inl below
    ]

    small : c.if-own-count.count ≤ max_observations
    small = elim c.if-own-count.branch [
      | then-own-count w ↦ omega (arith, w.count-is, c.shared-own.ensures.small)
      | else-own-count w ↦ omega (arith, w.count-is, c.loop-k.invariant.small)
    ]

    at : 0 < c.if-own-count.count → (1 ≤ c.if-own-count.earlier) × (c.if-own-count.earlier ≤ c.loop-k.k + 1) × (c.if-own-count.count ≡ shared c.args.observations.now c.args.book c.if-own-count.earlier)
    at = elim c.if-own-count.branch [
      | then-own-count w ↦ λ some. (omega (arith, w.earlier-is), omega (arith, w.earlier-is), w.count-is ∙ own ∙ ap (shared c.args.observations.now c.args.book) (sym w.earlier-is))
      | else-own-count w ↦ λ some.
          let before = c.loop-k.invariant.at (omega (arith, some, w.count-is)) in
          (omega (arith, w.earlier-is, before.0), omega (arith, w.earlier-is, before.1), w.count-is ∙ before.2 ∙ ap (shared c.args.observations.now c.args.book) (sym w.earlier-is))
    ]

    most : (other : ℕ) → 1 ≤ other → other ≤ c.loop-k.k + 1 → shared c.args.observations.now c.args.book other ≤ c.if-own-count.count
    most = elim c.if-own-count.branch [
      | then-own-count w ↦ λ other some within. elim (last other within) [
        | inl earlier ↦
            let before = c.loop-k.invariant.most other some earlier in
            omega (arith, before, w.count-is, w.if-own-count.true)
        | inr same ↦ rw same (omega (arith, own, w.count-is))
      ]
      | else-own-count w ↦ λ other some within. elim (last other within) [
        | inl earlier ↦
            let before = c.loop-k.invariant.most other some earlier in
            omega (arith, before, w.count-is)
        | inr same ↦ rw same (omega (arith, own, w.count-is, w.if-own-count.false))
      ]
    ]

    first : (other : ℕ) → 1 ≤ other → other < c.if-own-count.earlier → shared c.args.observations.now c.args.book other < c.if-own-count.count
    first = elim c.if-own-count.branch [
      | then-own-count w ↦ λ other some before.
          let earlier = c.loop-k.invariant.most other some (omega (arith, before, w.earlier-is)) in
          omega (arith, earlier, w.count-is, w.if-own-count.true)
      | else-own-count w ↦ λ other some before.
          let earlier = c.loop-k.invariant.first other some (omega (arith, before, w.earlier-is)) in
          omega (arith, earlier, w.count-is)
    ]
