use Rattle.std.proofs.Common.{◌≡◌, ◌∙◌, Err, ap, rules, subst}
use Rattle.th_network.specs.Networks.{Survey, surveyed}
use Rattle.th_run_parts.specs.Inputs.{TableRows}
use Rattle.th_run_parts.specs.Refused.{IsNetRefusal}
use Rattle.th_runs.proofs.checking.judge_survey.Goals as goal

pub returns-in_err-network : goal.returns-in_err-network
returns-in_err-network c =
    let is : c.from_residual.result ≡ Err c.in_err-network.field-0.0 = search rules in
    let same = ap (λ (rows : TableRows). surveyed c.survey.inside.observations.items rows.benchmarks rows.weights) c.tables.view_is in
    rw is (subst (λ (survey : Survey). IsNetRefusal survey c.in_err-network.field-0.0) (same ∙ c.survey.view_is) c.in_err-network.ensures)
