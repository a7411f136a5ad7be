use Rattle.std.proofs.Common.{◌≡◌, ◌∷◌, [], ℕ, Err, List, ap, rules, subst}
use Rattle.th_run_parts.specs.declared.outputs.Output.{Output}
use Rattle.th_run_parts.specs.Reads.{refused}
use Rattle.th_run_parts.specs.Writes.{AreWritten, Texts}
use Rattle.th_run_parts.proofs.RunLemmas.{begun_of, outcome_begun, written_behind}
use Rattle.th_run_parts.proofs.SourceLemmas.{read_before}
use Rattle.th_inputs.specs.declared.inputs.Input.TheVariants as input
use Rattle.th_run_parts.proofs.MendingLemmas.{mending_refused}
use Rattle.th_run_parts.proofs.mending.run_mend.Goals as goal

pub returns-in_err-text-clause-outcome : goal.returns-in_err-text-clause-outcome
returns-in_err-text-clause-outcome g c =
    let is : c.from_residual.result ≡ Err c.in_err-text.field-0.0 = search rules in
    rw is (mending_refused _ _ _ c.in_err-text.field-0.0 _ _ c.in_err-text.ensures.named c.in_err-text.ensures.refused (search rules))

pub returns-clause-outcome : goal.returns-clause-outcome
returns-clause-outcome g c =
    outcome_begun _ _ _ c.in_ok-text.text.items c.write_outs.result _ _ (begun_of (c.new.result.0 ∷ []) c.write_outs.result c.write_outs.ensures.named)
    c.in_ok-text.ensures.text (subst (λ (own : Texts). AreWritten g.K.Sink.state (refused c.write_outs.result) own c.args.outs.now c.write_outs.new.outs)
    (ap (λ (own : Output × List ℕ). own ∷ []) c.new.ensures) c.write_outs.ensures.written)

pub returns-clause-table : goal.returns-clause-table
returns-clause-table g c =
    read_before _ input.Changes (refused c.write_outs.result) _ _
    (written_behind input.Changes c.write_outs.result (begun_of (c.new.result.0 ∷ []) c.write_outs.result c.write_outs.ensures.named)) c.in_ok-text.ensures.table

pub returns-clause-book : goal.returns-clause-book
returns-clause-book g c =
    read_before _ (input.Book 1) (refused c.write_outs.result) _ _
    (written_behind (input.Book 1) c.write_outs.result (begun_of (c.new.result.0 ∷ []) c.write_outs.result c.write_outs.ensures.named)) c.in_ok-text.ensures.book
