use Rattle.std.proofs.Common.{◌≡◌, ◌∙◌, ◌∷◌, [], ℕ, Err, List, ap, rules, subst}
use Rattle.th_report.specs.Lists.{list_text}
use Rattle.th_inputs.specs.declared.inputs.Input.TheVariants as input
use Rattle.th_run_parts.specs.declared.outputs.Output.{Output}
use Rattle.th_run_parts.specs.declared.outputs.Output.TheVariants as output
use Rattle.th_run_parts.specs.Reads.{refused}
use Rattle.th_run_parts.specs.Writes.{AreWritten, Texts}
use Rattle.th_runs.proofs.NoteLemmas.{always, list_noted}
use Rattle.th_run_parts.proofs.RunLemmas.{begun_of, list_refused, outcome_begun, written_behind}
use Rattle.th_run_parts.proofs.SourceLemmas.{read_before}
use Rattle.th_runs.proofs.listing.run_list_with_notes.Goals as goal

pub returns-in_err-observations-clause-listed : goal.returns-in_err-observations-clause-listed
returns-in_err-observations-clause-listed g c =
    let is : c.from_residual.result ≡ Err c.in_err-observations.field-0.0 = search rules in
    rw is (record {
      outcome = list_refused _ _ _ 1 c.in_err-observations.field-0.0 _ _ c.in_err-observations.ensures.named c.in_err-observations.ensures.refused (search rules);
      named = search rules;
      book = c.in_err-observations.ensures.book;
    })

pub returns-clause-listed : goal.returns-clause-listed
returns-clause-listed g c =
    let begun = begun_of (c.new.result.0 ∷ []) c.write_outs.result c.write_outs.ensures.named in
    record {
      outcome = outcome_begun _ _ _ c.in_ok-observations.observations.items c.write_outs.result _ _ begun
          c.in_ok-observations.ensures.ok (subst (λ (own : Texts). AreWritten g.K.Sink.state (refused c.write_outs.result) own c.args.outs.now c.write_outs.new.outs)
          (ap (λ (own : Output × List ℕ). own ∷ []) (c.new.ensures ∙ ap (λ (text : List ℕ). (output.List, text)) (c.in_ok-list.ensures ∙ ap list_text c.as_slice.ensures.value))) c.write_outs.ensures.written);
      named = search rules;
      book = read_before _ (input.Book 1) (refused c.write_outs.result) _ _
          (written_behind (input.Book 1) c.write_outs.result begun) c.in_ok-observations.ensures.book;
    }

pub returns-clause-noted : goal.returns-clause-noted
returns-clause-noted g c = always c.write_outs.result (list_noted _ _ _ c.requires.none c.in_ok-observations.ensures.read)
