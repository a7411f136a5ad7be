use Rattle.std.proofs.Common.{◌≡◌, ℤ, pos, ◌+ℤ◌, ◌-ℤ◌, ◌*ℤ◌, FitsSigned, ap, of_z, rules, subst, sym, to_z, w64, arith}
use Rattle.std.proofs.lemmas.Int.{ints, to_z-of_z}
use Rattle.th_changes.specs.Slopes.{IsSlopedAt}
use Rattle.th_changes.proofs.PriceLemmas.{sloped_line}
use Rattle.th_changes.proofs.prices.sloped.Goals as goal

pub returns : goal.returns
returns c =
    let case = c.args.case.now in
    let survey = case.network.now in
    let line = c.args.line.now in
    let x : ℤ = to_z w64 (of_z w64 c.args.change) in
    let lost_fits : FitsSigned w64 line.lost = search rules in
    let lost = to_z-of_z w64 line.lost lost_fits in
    let net_fits : FitsSigned w64 line.net = search rules in
    let net = to_z-of_z w64 line.net net_fits in
    let times = ap (λ n. x *ℤ n) net in
    let shown = c.in_ok-shown.ensures in
    let same = c.if-shown-size.false in
    let size = c.in_ok-size.ensures in
    let equal : pos c.in_ok-cost.cost ≡ pos case.cost -ℤ line.lost +ℤ x *ℤ line.net = omega (arith, ints, lost, times, shown, same, size) in
    subst (λ (slope : ℤ). IsSlopedAt survey c.args.number.now x c.in_ok-cost.cost slope) (sym net)
    (sloped_line survey c.args.number.now case.cost line x c.in_ok-cost.cost c.requires c.in_ok-cost.ensures equal)
