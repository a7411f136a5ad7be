use Rattle.std.proofs.Common.{◌≡◌, ◌≤◌, ◌<◌, ◌+◌, ◌*◌, ◌^◌, ℕ, ℤ, pos, sum_by, unsigned_abs, w64, to_z, of_z, length, get_or, take, sym, ap, ◌∙◌, arith, mul-le-mul}
use Rattle.std.specs.List.{zip}
use Rattle.std.proofs.lemmas.Int.{fits_signed_from_abs, to_z-of_z}
use Rattle.std.proofs.lemmas.List.{take_all}
use Rattle.std.proofs.lemmas.List.Sums.{sum_by_more}
use Rattle.th_checker.specs.Inside.Tests.{residuals_at}
use Rattle.th_checker.proofs.ZipLemmas.{length_residuals, length_zip, pair_at}
use Rattle.th_checker.proofs.observations.Tested.cost.Goals as goal

-- the weighted size
abbrev weighted : ℕ × ℤ → ℕ
weighted pair = pair.0 * unsigned_abs pair.1

pub loop-i-preserved : goal.loop-i-preserved
loop-i-preserved c =
    let tested = c.args.self.now.tested in
    let weights = c.args.self.now.weights.now in
    let residuals = residuals_at (zip c.args.self.now.observations.now c.args.self.now.ends.now) c.args.heights.now in
    let same : length residuals ≡ length weights = length_residuals c.args.self.now.observations.now c.args.self.now.ends.now c.args.heights.now tested.ended ∙ sym tested.weighed in
    let i = c.loop-i.i in
    let within : i < length residuals = omega (arith, same, c.loop-i-test.true) in
    let residual = get_or residuals i (pos 0) in
    let pairs = zip weights residuals in
    let own = c.residual-residual.result in
    let plain : to_z w64 (of_z w64 own) ≡ own = to_z-of_z w64 own (fits_signed_from_abs w64 own (omega (arith, c.residual-residual.ensures.small))) in
    let weight : c.from.result ≡ get_or weights i 0 = c.from.ensures in
    let size : c.from-in-loop-i.result ≡ unsigned_abs own = c.from-in-loop-i.ensures ∙ c.unsigned_abs.ensures.value ∙ ap unsigned_abs plain in
    let named : c.from-in-loop-i.result ≡ unsigned_abs residual = size ∙ ap unsigned_abs c.residual-residual.ensures.value in
    let light : c.from.result ≤ 2 ^ 32 = omega (arith, weight) in
    let short : c.from-in-loop-i.result ≤ 2 ^ 60 = omega (arith, size, c.residual-residual.ensures.small) in
    record {
      total = ap (λ total. total + c.from.result * c.from-in-loop-i.result) c.loop-i.invariant.total
          ∙ ap (λ w. sum_by weighted (take i pairs) + w * c.from-in-loop-i.result) weight
          ∙ ap (λ s. sum_by weighted (take i pairs) + get_or weights i 0 * s) named
          ∙ ap (λ pair. sum_by weighted (take i pairs) + weighted pair) (sym (pair_at weights residuals i same within))
          ∙ sym (sum_by_more weighted pairs i (0, pos 0) (omega (arith, length_zip weights residuals same, within)));
      small = omega (arith, c.loop-i.invariant.small, mul-le-mul light short);
    }

pub returns : goal.returns
returns c =
    let tested = c.args.self.now.tested in
    let weights = c.args.self.now.weights.now in
    let residuals = residuals_at (zip c.args.self.now.observations.now c.args.self.now.ends.now) c.args.heights.now in
    let same : length residuals ≡ length weights = length_residuals c.args.self.now.observations.now c.args.self.now.ends.now c.args.heights.now tested.ended ∙ sym tested.weighed in
    c.loop-i.invariant.total ∙ ap (sum_by weighted) (take_all c.loop-i.i (zip weights residuals) (omega (arith, length_zip weights residuals same, same, c.loop-i-test.false)))
