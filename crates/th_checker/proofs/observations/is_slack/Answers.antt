use Rattle.std.proofs.Common.{◌≡◌, ◌*◌, ◌==◌, pos, ◌*ℤ◌, w64, to_z, of_z, unsigned_abs, ap, ◌∙◌, arith}
use Rattle.std.specs.Int.{w128}
use Rattle.std.proofs.lemmas.Int.{fits_signed_from_abs, to_z-of_z}
use Rattle.th_checker.proofs.NumberLemmas.{product_small, test_z, whole_small}
use Rattle.th_checker.proofs.observations.is_slack.Goals as goal

pub returns : goal.returns
returns c =
    let flow = c.args.flow in
    let residual = c.args.residual in
    let small = c.requires.residual in
    let small' = c.requires.flow in
    let size = unsigned_abs residual in
    let r64 = to_z-of_z w64 residual (fits_signed_from_abs w64 residual (omega arith)) in
    let f64 = to_z-of_z w64 flow (fits_signed_from_abs w64 flow (omega arith)) in
    let a : to_z w128 (of_z w128 c.from.result) ≡ flow = ap (λ z. to_z w128 (of_z w128 z)) (c.from.ensures ∙ f64) ∙ to_z-of_z w128 flow (fits_signed_from_abs w128 flow (omega arith)) in
    let b : to_z w128 (of_z w128 c.from-2.result) ≡ residual = ap (λ z. to_z w128 (of_z w128 z)) (c.from-2.ensures ∙ r64) ∙ to_z-of_z w128 residual (fits_signed_from_abs w128 residual (omega arith)) in
    let d : to_z w128 (of_z w128 c.from-3.result) ≡ pos c.args.weight =
    ap (λ z. to_z w128 (of_z w128 z)) c.from-3.ensures ∙ to_z-of_z w128 (pos c.args.weight) (fits_signed_from_abs w128 (pos c.args.weight) (omega (arith, c.ranges.weight.fits))) in
    let e : to_z w128 (of_z w128 c.from-4.result) ≡ pos size =
    ap (λ z. to_z w128 (of_z w128 z)) (c.from-4.ensures ∙ ap pos (c.unsigned_abs.ensures.value ∙ ap unsigned_abs r64)) ∙ to_z-of_z w128 (pos size) (fits_signed_from_abs w128 (pos size) (omega arith)) in
    ap (λ z. of_z w128 (z *ℤ to_z w128 (of_z w128 c.from-2.result)) == of_z w128 (to_z w128 (of_z w128 c.from-3.result) *ℤ to_z w128 (of_z w128 c.from-4.result))) a
    ∙ ap (λ z. of_z w128 (flow *ℤ z) == of_z w128 (to_z w128 (of_z w128 c.from-3.result) *ℤ to_z w128 (of_z w128 c.from-4.result))) b
    ∙ ap (λ z. of_z w128 (flow *ℤ residual) == of_z w128 (z *ℤ to_z w128 (of_z w128 c.from-4.result))) d
    ∙ ap (λ z. of_z w128 (flow *ℤ residual) == of_z w128 (pos c.args.weight *ℤ z)) e
    ∙ test_z (flow *ℤ residual) (pos (c.args.weight * size)) (product_small flow residual c.requires.flow c.requires.residual) (whole_small c.args.weight size c.ranges.weight.fits c.requires.residual)
