use Rattle.std.proofs.Common.{◌≡◌, ◌∙◌, ℤ, List, ap, of_z, subst, to_z, w64}
use Rattle.std.proofs.lemmas.Int.{to_z-of_z}
use Rattle.std.specs.Prelude.{IfOk}
use Rattle.th_blunders.specs.Fits.{IsFit}
use Rattle.th_changes.specs.declared.cases.Case.{Case}
use Rattle.th_explain_rows.specs.Explanations.{AreExplained}
use Rattle.th_network.specs.Networks.{Survey, at_points_of}
use Rattle.th_explain_rows.proofs.findings.explanations_of.Goals as goal

pub of-case-requires-clause-fit : goal.of-case-requires-clause-fit
of-case-requires-clause-fit g c =
    let survey = c.args.network.now in
    subst (λ (low : List ℤ). IsFit survey (at_points_of survey low) c.in_ok-fit.fit) c.low.ensures c.in_ok-fit.ensures

pub returns : goal.returns
returns g c =
    let network : c.in_ok-mending.mending.case.now.network.now ≡ c.args.network.now = ap (λ (own : Case). own.network.now) c.in_ok-mending.ensures ∙ c.of-case.ensures.network in
    record {
      explained = subst (λ (limit : ℤ). AreExplained c.args.network.now c.args.reviews.now limit c.in_ok-found.found.0) (to_z-of_z w64 c.args.limit c.ranges.limit)
          (subst (λ (survey : Survey). AreExplained survey c.args.reviews.now (to_z w64 (of_z w64 c.args.limit)) c.in_ok-found.found.0) network c.in_ok-found.ensures.explained);
    }
