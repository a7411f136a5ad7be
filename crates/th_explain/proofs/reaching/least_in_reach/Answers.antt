use Rattle.std.proofs.Common.{FitsSigned, ap, rules, sym, to_z, w64, ◌∙◌, arith}
use Rattle.std.proofs.lemmas.Int.{to_z-of_z}
use Rattle.th_explain.proofs.ReachLemmas.{given_alone, given_flat}
use Rattle.th_explain.proofs.reaching.least_in_reach.Goals as goal

pub returns-then-reach-eq0 : goal.returns-then-reach-eq0
returns-then-reach-eq0 c = given_alone c.args.case.now.network.now c.args.number.now c.slope_as_given-given.result c.slope_as_given-given.ensures.sloped c.slope_as_given-given.ensures.at (omega arith)

pub returns-then-given-eq0 : goal.returns-then-given-eq0
returns-then-given-eq0 c =
    let fits : FitsSigned w64 c.slope_as_given-given.result.slope = search rules in
    given_flat c.args.case.now.network.now c.args.number.now c.slope_as_given-given.result c.slope_as_given-given.ensures.sloped c.slope_as_given-given.ensures.at
    (sym (to_z-of_z w64 c.slope_as_given-given.result.slope fits) ∙ ap (to_z w64) c.if-given-eq0.true)
