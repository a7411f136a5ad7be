use Rattle.std.proofs.Common.{◌≡◌, ◌∙◌, Err, IfErr, List, ap, arith, rules, subst, sym}
use Rattle.std.proofs.lemmas.List.{length-map}
use Rattle.th_network.specs.Networks.{Survey}
use Rattle.th_inputs.specs.declared.inputs.Input.TheVariants as input
use Rattle.th_run_parts.specs.Reads.{refused}
use Rattle.th_run_parts.specs.Summed.{Tolds, tolds_of}
use Rattle.th_run_parts.specs.Writes.{AreWritable, AreWritten, IsFailedWrite, Texts}
use Rattle.th_run_parts.specs.declared.outputs.Output.{Output}
use Rattle.th_run_parts.proofs.OutputLemmas.{outputs_of}
use Rattle.th_run_parts.proofs.RunLemmas.{begun_of, named_of, network_behind, network_refused, of_inputs, survey_begun, survey_refused, written_behind}
use Rattle.th_run_parts.proofs.SourceLemmas.{all_before}
use Rattle.th_runs.specs.Commands.{HasRead}
use Rattle.th_runs.proofs.NoteLemmas.{always}
use Rattle.th_runs.proofs.commands.run_command.Goals as goal

pub texts_of-requires : goal.texts_of-requires
texts_of-requires g c = record {
  read = (
    tolds_of g.B.Source.state g.T.Source.state g.W.Source.state c.args.books.now c.args.benchmarks.now c.args.weights.now,
    record {
      first = c.args.reader.now;
      new = c.requires.new;
      few = omega (arith, length-map c.args.books.now (λ book. (g.B.Source.state book).left), c.requires.ready.few_books);
      read = c.in_ok-survey.ensures.read;
      tables = rw (c.as_slice.ensures.value, sym c.new-of_tables.ensures.items) c.in_ok-survey.ensures.summed;
    },
  );
}

pub returns-in_err-survey-clause-printed : goal.returns-in_err-survey-clause-printed
returns-in_err-survey-clause-printed g c =
    let is : c.from_residual.result ≡ Err c.in_err-survey.field-0.0 = search rules in
    rw is (record {
      outcome = survey_refused (λ (survey : Survey). survey) _ _ c.in_err-survey.field-0.0 _ _ (of_inputs _ _ c.in_err-survey.field-0.0 c.in_err-survey.ensures.named) c.in_err-survey.ensures.answer (search rules);
      named = search rules;
      sources = c.in_err-survey.ensures.sources;
    })

pub returns-in_err-texts-clause-printed : goal.returns-in_err-texts-clause-printed
returns-in_err-texts-clause-printed g c =
    let is : c.from_residual-in_err-texts.result ≡ Err c.in_err-texts.field-0.0 = search rules in
    rw is (record {
      outcome = network_refused (λ (survey : Survey). survey) _ _ c.in_ok-survey.survey c.in_err-texts.field-0.0 _ _ c.in_ok-survey.ensures.answer c.in_err-texts.ensures.texts (search rules);
      named = search rules;
      sources = all_before _ _ _ _ _ _ _ _ _ _ (network_behind input.Weights c.in_ok-survey.survey c.in_err-texts.field-0.0 c.in_err-texts.ensures.texts) c.in_ok-survey.ensures.sources;
    })

pub write_outs-requires : goal.write_outs-requires
write_outs-requires g c =
    let tolds : Tolds = tolds_of g.B.Source.state g.T.Source.state g.W.Source.state c.args.books.now c.args.benchmarks.now c.args.weights.now in
    let read : HasRead g.C.Reader.BookReader.has_read g.C.SurveyCommand.is_new tolds c.in_ok-survey.survey.observations c.read_summed_survey.new.reader c.as_slice.result.now = record {
      first = c.args.reader.now;
      new = c.requires.new;
      few = omega (arith, length-map c.args.books.now (λ book. (g.B.Source.state book).left), c.requires.ready.few_books);
      read = c.in_ok-survey.ensures.read;
      tables = rw (c.as_slice.ensures.value, sym c.new-of_tables.ensures.items) c.in_ok-survey.ensures.summed;
    } in
    let outputs = ap outputs_of c.as_slice-2.ensures.value ∙ g.met.C.SurveyCommand.in_order c.args.command.now tolds c.in_ok-survey.survey c.in_ok-texts.texts.items (c.in_ok-texts.ensures.texts.1 tolds read) in
    subst (λ (own : List Output). AreWritable g.K.Sink.state own c.args.outs.now) (sym outputs) c.requires.outs

pub returns-clause-printed : goal.returns-clause-printed
returns-clause-printed g c =
    let tolds : Tolds = tolds_of g.B.Source.state g.T.Source.state g.W.Source.state c.args.books.now c.args.benchmarks.now c.args.weights.now in
    let read : HasRead g.C.Reader.BookReader.has_read g.C.SurveyCommand.is_new tolds c.in_ok-survey.survey.observations c.read_summed_survey.new.reader c.as_slice.result.now = record {
      first = c.args.reader.now;
      new = c.requires.new;
      few = omega (arith, length-map c.args.books.now (λ book. (g.B.Source.state book).left), c.requires.ready.few_books);
      read = c.in_ok-survey.ensures.read;
      tables = rw (c.as_slice.ensures.value, sym c.new-of_tables.ensures.items) c.in_ok-survey.ensures.summed;
    } in
    let are = c.in_ok-texts.ensures.texts.1 tolds read in
    let outputs = ap outputs_of c.as_slice-2.ensures.value ∙ g.met.C.SurveyCommand.in_order c.args.command.now tolds c.in_ok-survey.survey c.in_ok-texts.texts.items are in
    let begun = begun_of _ c.write_outs.result c.write_outs.ensures.named in
    record {
      outcome = survey_begun (λ (survey : Survey). survey) _ _ c.in_ok-survey.survey c.write_outs.result _ _ begun c.in_ok-survey.ensures.answer c.in_ok-texts.ensures.texts.0 (
        c.in_ok-texts.texts.items,
        are,
        subst (λ (own : Texts). AreWritten g.K.Sink.state (refused c.write_outs.result) own c.args.outs.now c.write_outs.new.outs) c.as_slice-2.ensures.value c.write_outs.ensures.written,
      );
      named = named_of _ _ g.C.SurveyCommand.run c.write_outs.result (subst (λ (own : List Output). IfErr c.write_outs.result (IsFailedWrite own)) outputs c.write_outs.ensures.named);
      sources = all_before _ _ _ (refused c.write_outs.result) _ _ _ _ _ _ (written_behind input.Weights c.write_outs.result begun) c.in_ok-survey.ensures.sources;
    }

pub returns-clause-noted : goal.returns-clause-noted
returns-clause-noted g c =
    let tolds : Tolds = tolds_of g.B.Source.state g.T.Source.state g.W.Source.state c.args.books.now c.args.benchmarks.now c.args.weights.now in
    let read : HasRead g.C.Reader.BookReader.has_read g.C.SurveyCommand.is_new tolds c.in_ok-survey.survey.observations c.read_summed_survey.new.reader c.as_slice.result.now = record {
      first = c.args.reader.now;
      new = c.requires.new;
      few = omega (arith, length-map c.args.books.now (λ book. (g.B.Source.state book).left), c.requires.ready.few_books);
      read = c.in_ok-survey.ensures.read;
      tables = rw (c.as_slice.ensures.value, sym c.new-of_tables.ensures.items) c.in_ok-survey.ensures.summed;
    } in
    always c.write_outs.result (
      c.in_ok-survey.survey,
      record { given = c.in_ok-survey.ensures.answer; network = c.in_ok-texts.ensures.texts.0 },
      c.in_ok-texts.ensures.noted tolds read,
    )
