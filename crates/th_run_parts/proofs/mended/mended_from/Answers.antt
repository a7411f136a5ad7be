use Rattle.std.proofs.Common.{◌≡◌, Err, inl, inr, rules}
use Rattle.std.proofs.lemmas.Result.{IfErr-weaker, IfOk-weaker}
use Rattle.th_run_parts.specs.Reads.{IsBehind, refused}
use Rattle.th_run_parts.proofs.RunLemmas.{first_refused, second_refused}
use Rattle.th_run_parts.proofs.SourceLemmas.{if_refused, not_read, read_before}
use Rattle.th_inputs.specs.declared.inputs.Input.TheVariants as input
use Rattle.th_run_parts.proofs.MendingLemmas.{behind_changes, both_met, elsewhere_changes}
use Rattle.th_run_parts.proofs.mended.mended_from.Goals as goal

pub returns-in_err-changes-clause-refused : goal.returns-in_err-changes-clause-refused
returns-in_err-changes-clause-refused g c =
    let is : c.from_residual.result ≡ Err c.in_err-changes.field-0.0 = search rules in
    rw is (first_refused _ _ c.in_err-changes.field-0.0 c.in_err-changes.ensures.refused)

pub returns-in_err-changes-clause-named : goal.returns-in_err-changes-clause-named
returns-in_err-changes-clause-named g c =
    let is : c.from_residual.result ≡ Err c.in_err-changes.field-0.0 = search rules in
    rw is (inl c.in_err-changes.ensures.named)

pub returns-in_err-changes-clause-book : goal.returns-in_err-changes-clause-book
returns-in_err-changes-clause-book g c =
    let is : c.from_residual.result ≡ Err c.in_err-changes.field-0.0 = search rules in
    rw is (not_read _ (input.Book 1) _ _ (elsewhere_changes c.in_err-changes.field-0.0 c.in_err-changes.ensures.named))

pub returns-clause-text : goal.returns-clause-text
returns-clause-text g c =
    IfOk-weaker c.mended_by.result _ _ (λ text meets. both_met _ _ c.in_ok-changes.changes.items text.items c.in_ok-changes.ensures.changes meets)
    (rw c.as_slice.ensures.value at c.mended_by.ensures.text)

pub returns-clause-refused : goal.returns-clause-refused
returns-clause-refused g c =
    IfErr-weaker c.mended_by.result _ _ (λ own meets. second_refused _ _ c.in_ok-changes.changes.items own c.in_ok-changes.ensures.changes meets)
    (rw c.as_slice.ensures.value at c.mended_by.ensures.refused)

pub returns-clause-named : goal.returns-clause-named
returns-clause-named g c = IfErr-weaker c.mended_by.result _ _ (λ own is. inr is) c.mended_by.ensures.named

pub returns-clause-table : goal.returns-clause-table
returns-clause-table g c =
    read_before _ input.Changes (refused c.mended_by.result) _ _
    (if_refused (IsBehind input.Changes) c.mended_by.result (IfErr-weaker c.mended_by.result _ _ behind_changes c.mended_by.ensures.named)) c.in_ok-changes.ensures.table
