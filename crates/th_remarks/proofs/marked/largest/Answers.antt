use Rattle.std.proofs.Common.{◌≡◌, ◌<◌, ◌≤◌, ◌⊎◌, inl, inr, pos, List, get_or, unsigned_abs, take, map, All, Contains, ap, subst, ◌∙◌, arith}
use Rattle.std.proofs.lemmas.Int.{ints}
use Rattle.std.proofs.lemmas.List.{take_all}
use Rattle.th_remarks.proofs.LargestLemmas.{largest_more, reached_more}
use Rattle.th_remarks.proofs.marked.largest.Goals as goal

pub loop-residual-preserved : goal.loop-residual-preserved
loop-residual-preserved c =
    let residuals = c.args.residuals.now in
    let i = c.loop-residual.residual-index in
    let bound = c.requires.small i (pos 0) c.loop-residual-test.true in
    let size : c.unsigned_abs.result ≡ unsigned_abs (get_or residuals i (pos 0)) = omega (arith, ints, bound, c.unsigned_abs.ensures.value) in
    let here : unsigned_abs (get_or residuals i (pos 0)) ≤ c.larger-largest.result = omega (arith, size, c.larger-largest.ensures.second) in
    let one : (c.larger-largest.result ≡ c.loop-residual.largest) ⊎ (c.larger-largest.result ≡ unsigned_abs (get_or residuals i (pos 0))) = elim c.larger-largest.ensures.one [
      | inl before ↦ inl before
      | inr own ↦ inr (own ∙ size)
    ] in
    record {
      small = elim c.larger-largest.ensures.one [
        | inl before ↦ omega (arith, before, c.loop-residual.invariant.small)
        | inr own ↦ omega (arith, own, size, bound)
      ];
      largest = largest_more residuals i c.loop-residual.largest c.larger-largest.result c.loop-residual-test.true c.loop-residual.invariant.largest c.larger-largest.ensures.first here;
      reached = λ some. reached_more residuals i c.loop-residual.largest c.larger-largest.result c.loop-residual-test.true c.loop-residual.invariant.reached c.loop-residual.invariant.none here one;
      none = λ is. absurd (omega (arith, is));
    }
