use Rattle.std.proofs.Common.{◌∙◌, ℤ, List, ap, length, rules, w64}
use Rattle.std.proofs.lemmas.Int.{to_z-of_z}
use Rattle.std.proofs.lemmas.List.{length-map}
use Rattle.th_observations.specs.Observed.{Observed}
use Rattle.th_network.specs.Heights.{residual}
use Rattle.th_network.specs.Networks.{at_points_of}
use Rattle.th_blunders.specs.Residuals.{residuals}
use Rattle.th_runs.specs.Adjusted.{OutTexts}
use Rattle.th_runs.proofs.NoteLemmas.{always, remarks_with}
use Rattle.th_run_parts.proofs.ReaderLemmas.{if_ok}
use Rattle.th_runs.proofs.adjusting.texts_of_network.Goals as goal

pub returns-clause-texts : goal.returns-clause-texts
returns-clause-texts c =
    let texts : OutTexts = record {
      heights = c.in_ok-heights.heights.items;
      certificate = c.in_ok-certificate.certificate.items;
      report = c.in_ok-report.report.items;
      gsi = c.in_ok-gsi.gsi.items;
    } in
    if_ok _ _ c.in_order.result (λ own is. (texts, search rules, is)) c.in_order.ensures

pub of-requires-2-clause-each : goal.of-requires-2-clause-each
of-requires-2-clause-each c =
    let network = c.args.network.now in
    let heights = at_points_of network c.low-low.result.now in
    ap length (c.deref.ensures.value ∙ c.in_ok-fit.ensures.residuals) ∙ length-map network.observations (λ (o : Observed). residual o heights)

pub returns-clause-noted : goal.returns-clause-noted
returns-clause-noted c =
    let network = c.args.network.now in
    let limit = to_z-of_z w64 c.args.limit c.ranges.limit in
    let left = c.deref.ensures.value ∙ c.in_ok-fit.ensures.residuals in
    always c.in_order.result (remarks_with network c.in_ok-best.best c.args.limit _ c.in_ok-of.field-0 c.with_heights.result c.many_heights.result
    c.in_ok-of.ensures.survey (rw limit at c.in_ok-of.ensures.residuals) c.with_heights.ensures.repeats c.with_heights.ensures.alike c.with_heights.ensures.marks c.with_heights.ensures.outlier
    c.in_ok-best.ensures (rw (c.low-low.ensures, c.high-high.ensures, limit) at c.many_heights.ensures) c.with_heights.ensures.heights
    (left ∙ ap (λ (low : List ℤ). residuals network.observations (at_points_of network low)) c.low-low.ensures))
