use Rattle.std.proofs.Common.{◌≡◌, ◌∙◌, Err, ap, rules, subst, sym}
use Rattle.std.specs.Prelude.{OnOk}
use Rattle.th_network.specs.Networks.{Survey, surveyed}
use Rattle.th_run_parts.specs.Inputs.{MakesNetwork, TableRows}
use Rattle.th_run_parts.specs.Refused.{IsNetRefusal}
use Rattle.th_run_parts.specs.Summed.{Tolds}
use Rattle.th_run_parts.proofs.RunLemmas.{of_network}
use Rattle.th_runs.specs.Commands.{HasRead}
use Rattle.th_runs.proofs.commands.texts_of.Goals as goal

pub returns-in_err-network-clause-texts : goal.returns-in_err-network-clause-texts
returns-in_err-network-clause-texts g c =
    let is : c.from_residual.result ≡ Err c.in_err-network.field-0.0 = search rules in
    let same = ap (λ (rows : TableRows). surveyed c.survey.inside.observations.items rows.benchmarks rows.weights) c.tables.view_is in
    rw is (subst (λ (survey : Survey). IsNetRefusal survey c.in_err-network.field-0.0) (same ∙ c.survey.view_is) c.in_err-network.ensures)

pub texts-requires-clause-read : goal.texts-requires-clause-read
texts-requires-clause-read g c =
    let same = ap (λ (rows : TableRows). surveyed c.survey.inside.observations.items rows.benchmarks rows.weights) c.tables.view_is ∙ c.survey.view_is in
    subst (λ (survey : Survey). (tolds : Tolds) × HasRead g.C.Reader.BookReader.has_read g.C.SurveyCommand.is_new tolds survey.observations c.args.reader.now c.args.of_tables.now)
    (sym (c.in_ok-network.ensures.1 ∙ same)) c.requires.read

pub returns-clause-texts : goal.returns-clause-texts
returns-clause-texts g c =
    let same = ap (λ (rows : TableRows). surveyed c.survey.inside.observations.items rows.benchmarks rows.weights) c.tables.view_is ∙ c.survey.view_is in
    of_network c.args.survey c.in_ok-network.network
    (λ (survey : Survey) texts. (tolds : Tolds) → HasRead g.C.Reader.BookReader.has_read g.C.SurveyCommand.is_new tolds survey.observations c.args.reader.now c.args.of_tables.now
    → g.C.SurveyCommand.are_of c.args.command.now tolds survey texts.items)
    c.texts.result (subst MakesNetwork same c.in_ok-network.ensures.0) (c.in_ok-network.ensures.1 ∙ same) c.texts.ensures.texts c.texts.ensures.refused

pub returns-clause-noted : goal.returns-clause-noted
returns-clause-noted g c =
    let same = ap (λ (rows : TableRows). surveyed c.survey.inside.observations.items rows.benchmarks rows.weights) c.tables.view_is ∙ c.survey.view_is in
    subst (λ (survey : Survey). OnOk c.texts.result ((tolds : Tolds)
    → HasRead g.C.Reader.BookReader.has_read g.C.SurveyCommand.is_new tolds survey.observations c.args.reader.now c.args.of_tables.now
    → g.C.SurveyCommand.has_noted c.args.command.now tolds survey c.texts.new.reader))
    (c.in_ok-network.ensures.1 ∙ same) c.texts.ensures.noted
