use Rattle.std.proofs.Common.{FitsSigned, ◌≡◌, ◌∙◌, ℤ, List, ap, rules, subst, w64, to_z, of_z}
use Rattle.std.proofs.lemmas.Int.{to_z-of_z}
use Rattle.th_answer.specs.Answers.{IsAnswer}
use Rattle.th_blunders.specs.Fits.{IsFit}
use Rattle.th_changes.specs.declared.cases.Case.{Case}
use Rattle.th_explain_rows.specs.Explanations.{AreExplained}
use Rattle.th_explain_texts.specs.declared.rows.Row.{Row}
use Rattle.th_network.specs.Networks.{Survey, at_points_of}
use Rattle.th_runs.proofs.paging.explained_of.Goals as goal

pub of-case-requires-clause-fit : goal.of-case-requires-clause-fit
of-case-requires-clause-fit g c =
    let survey = c.args.network.now in
    subst (λ (low : List ℤ). IsFit survey (at_points_of survey low) c.in_ok-fit.fit) c.low.ensures c.in_ok-fit.ensures

pub returns-clause-explained : goal.returns-clause-explained
returns-clause-explained g c =
    let survey = c.args.network.now in
    let reviews = c.args.subject.reviews.now in
    let limit : ℤ = c.args.subject.limit in
    let fits : FitsSigned w64 limit = search rules in
    let explained = c.in_ok-found.found.0 in
    let given : c.in_ok-mending.mending.case.now.network.now ≡ survey = ap (λ (own : Case). own.network.now) c.in_ok-mending.ensures ∙ c.of-case.ensures.network in
    subst (λ (limit : ℤ). AreExplained survey reviews limit explained) (to_z-of_z w64 limit fits)
    (subst (λ (own : Survey). AreExplained own reviews (to_z w64 (of_z w64 limit)) explained) given c.in_ok-found.ensures.explained)

pub returns-clause-answer : goal.returns-clause-answer
returns-clause-answer g c =
    let survey = c.args.network.now in
    let reviews = c.args.subject.reviews.now in
    let limit : ℤ = c.args.subject.limit in
    let fits : FitsSigned w64 limit = search rules in
    let explained = c.in_ok-found.found.0 in
    let answer = c.in_ok-answer.answer in
    let given : c.in_ok-found.found.1.case.now.network.now ≡ survey = ap (λ (own : Case). own.network.now) (c.in_ok-found.ensures.case ∙ c.in_ok-mending.ensures) ∙ c.of-case.ensures.network in
    let rows : c.as_slice-rows.result.now ≡ explained.rows.items = search rules in
    subst (λ (limit : ℤ). IsAnswer survey reviews explained.rows.items limit answer) (to_z-of_z w64 limit fits)
    (subst (λ (own : List Row). IsAnswer survey reviews own (to_z w64 (of_z w64 limit)) answer) rows
    (subst (λ (own : Survey). IsAnswer own reviews c.as_slice-rows.result.now (to_z w64 (of_z w64 limit)) answer) given c.in_ok-answer.ensures.answer))
