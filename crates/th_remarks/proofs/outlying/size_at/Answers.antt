use Rattle.std.proofs.Common.{◌≡◌, ◌<◌, ◌*◌, ◌∙◌, ℤ, pos, get_or, length, unsigned_abs, ap, sym, arith}
use Rattle.th_remarks.proofs.SightLemmas.{plain, size_there}
use Rattle.th_remarks.proofs.outlying.size_at.Goals as goal

pub returns : goal.returns
returns c =
    let weights = c.args.weights.now in
    let residuals = c.args.residuals.now in
    let place = c.args.place in
    let light : place < length weights = omega (arith, c.requires.each, c.requires.within) in
    c.weighted_size.ensures.value
    ∙ ap (λ (residual : ℤ). get_or weights place 0 * unsigned_abs residual) (plain residuals place c.requires.small c.requires.within)
    ∙ sym (size_there weights residuals place light c.requires.within)
