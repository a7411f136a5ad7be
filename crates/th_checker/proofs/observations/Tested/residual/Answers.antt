use Rattle.std.proofs.Common.{◌≡◌, ◌<◌, ◌≤◌, ℤ, pos, ◌-ℤ◌, get_or, unsigned_abs, subst, sym, ap, ◌∙◌, arith}
use Rattle.std.proofs.lemmas.List.Elements.{All-get_or}
use Rattle.th_observations.specs.Observed.{Observed}
use Rattle.th_points.specs.Ends.{AreBelow}
use Rattle.th_certificate.specs.Limits.{most_residual}
use Rattle.th_network.specs.Limits.{height_limit}
use Rattle.th_checker.proofs.NumberLemmas.{residual_plain, residual_small}
use Rattle.th_checker.proofs.ZipLemmas.{residual_here}
use Rattle.th_checker.proofs.observations.Tested.residual.Goals as goal

pub returns-clause-value : goal.returns-clause-value
returns-clause-value c =
    let own = c.args.self.now in
    let heights = c.args.heights.now in
    let i = c.args.i in
    let o = c.index-self-i.result in
    let end = get_or own.ends.now i (0, 0) in
    let below : AreBelow own.points end = All-get_or (AreBelow own.points) own.ends.now i (0, 0) (omega (arith, own.tested.ended, c.requires.place)) own.tested.within in
    let to : unsigned_abs (get_or heights end.1 (pos 0)) < height_limit = All-get_or (λ height. unsigned_abs height < height_limit) heights end.1 (pos 0) (omega (arith, c.requires.heights.each, below.1)) c.requires.heights.in_range in
    let from : unsigned_abs (get_or heights end.0 (pos 0)) < height_limit = All-get_or (λ height. unsigned_abs height < height_limit) heights end.0 (pos 0) (omega (arith, c.requires.heights.each, below.0)) c.requires.heights.in_range in
    let difference : c.difference.result ≡ o.difference = c.difference.ensures.value ∙ ap (λ (o : Observed). o.difference) (sym c.index-self-i.is) in
    residual_plain c.difference.result (get_or heights end.1 (pos 0)) (get_or heights end.0 (pos 0)) c.difference.ensures.in_range to from
    ∙ ap (λ z. z -ℤ (get_or heights end.1 (pos 0) -ℤ get_or heights end.0 (pos 0))) difference
    ∙ sym (residual_here own.observations.now own.ends.now heights i o own.tested.ended c.requires.place c.index-self-i.is)

pub returns-clause-small : goal.returns-clause-small
returns-clause-small c =
    let own = c.args.self.now in
    let heights = c.args.heights.now in
    let i = c.args.i in
    let end = get_or own.ends.now i (0, 0) in
    let below : AreBelow own.points end = All-get_or (AreBelow own.points) own.ends.now i (0, 0) (omega (arith, own.tested.ended, c.requires.place)) own.tested.within in
    let to : unsigned_abs (get_or heights end.1 (pos 0)) < height_limit = All-get_or (λ height. unsigned_abs height < height_limit) heights end.1 (pos 0) (omega (arith, c.requires.heights.each, below.1)) c.requires.heights.in_range in
    let from : unsigned_abs (get_or heights end.0 (pos 0)) < height_limit = All-get_or (λ height. unsigned_abs height < height_limit) heights end.0 (pos 0) (omega (arith, c.requires.heights.each, below.0)) c.requires.heights.in_range in
    subst (λ (z : ℤ). unsigned_abs z ≤ most_residual)
    (sym (residual_plain c.difference.result (get_or heights end.1 (pos 0)) (get_or heights end.0 (pos 0)) c.difference.ensures.in_range to from))
    (residual_small c.difference.result (get_or heights end.1 (pos 0)) (get_or heights end.0 (pos 0)) c.difference.ensures.in_range to from)
