use Rattle.std.proofs.Common.{FitsSigned, ap, rules, sym, to_z, w64, ◌∙◌, arith}
use Rattle.std.proofs.lemmas.Int.{to_z-of_z}
use Rattle.th_explain.proofs.ExplainLemmas.{none_if_far, none_if_flat}
use Rattle.th_changes.specs.Reach.{reach_of}
use Rattle.th_changes.specs.declared.numbers.Number.{Number}
use Rattle.th_network.specs.Networks.{Survey}
use Rattle.th_explain.proofs.explaining.explanation.Goals as goal

pub returns-then-limit-question : goal.returns-then-limit-question
returns-then-limit-question c =
    let of = c.of-question.ensures in
    let reach = c.of-question.result.is_reach ∙ ap (λ (number : Number). reach_of number c.of-question.result.network.now.observations) of.number ∙ ap (λ (survey : Survey). reach_of c.args.number.now survey.observations) of.network in
    none_if_far c.args.case.now.network.now c.args.limit c.args.number.now (omega (arith, c.if-limit-question.true, reach))

pub returns-then-given-eq0 : goal.returns-then-given-eq0
returns-then-given-eq0 c =
    let fits : FitsSigned w64 c.slope_as_given-given.result.slope = search rules in
    none_if_flat c.args.case.now.network.now c.args.limit c.args.number.now c.slope_as_given-given.result c.slope_as_given-given.ensures.sloped c.slope_as_given-given.ensures.at
    (sym (to_z-of_z w64 c.slope_as_given-given.result.slope fits) ∙ ap (to_z w64) c.if-given-eq0.true)
