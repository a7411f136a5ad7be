use Rattle.std.proofs.Common.{FitsSigned, rules, w64, arith}
use Rattle.std.proofs.lemmas.Int.{ints}
use Rattle.th_explain.proofs.ExplainLemmas.{none_above, none_below}
use Rattle.th_explain.proofs.solving.is_past.Goals as goal

pub returns-then-own-ge0 : goal.returns-then-own-ge0
returns-then-own-ge0 c holds =
    let given_fits : FitsSigned w64 c.args.given.now.slope = search rules in
    let own_fits : FitsSigned w64 c.args.own.now.slope = search rules in
    let change_fits : FitsSigned w64 c.args.own.now.change = search rules in
    let size = c.unsigned_abs.ensures.value in
    let same = c.if-unsigned_abs-limit.false in
    none_above c.args.network.now c.args.limit c.args.number.now c.args.given.now c.args.own.now c.requires.given c.requires.at (omega (arith, ints, c.if-given-lt0.true)) c.requires.own
    (omega (arith, ints, c.if-own-ge0.true, size, same)) (omega (arith, ints, holds))

pub returns-then-own-le0 : goal.returns-then-own-le0
returns-then-own-le0 c holds =
    let given_fits : FitsSigned w64 c.args.given.now.slope = search rules in
    let own_fits : FitsSigned w64 c.args.own.now.slope = search rules in
    let change_fits : FitsSigned w64 c.args.own.now.change = search rules in
    let size = c.unsigned_abs.ensures.value in
    let same = c.if-unsigned_abs-limit.false in
    none_below c.args.network.now c.args.limit c.args.number.now c.args.given.now c.args.own.now c.requires.given c.requires.at (omega (arith, ints)) c.requires.own
    (omega (arith, ints, size, same)) (omega (arith, ints, holds))
