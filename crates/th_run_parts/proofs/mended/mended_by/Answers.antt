use Rattle.std.proofs.Common.{◌+◌, Ok, refl, arith}
use Rattle.th_book.specs.Limits.{max_book}
use Rattle.th_mend.specs.MendedBooks.{mended}
use Rattle.th_run_parts.proofs.Givens.{meets_fault, meets_front}
use Rattle.th_inputs.specs.declared.inputs.Input.TheVariants as input
use Rattle.th_run_parts.specs.Mended.{refusal_for}
use Rattle.th_run_parts.proofs.MendingLemmas.{mend_fault_told, mended-take}
use Rattle.th_run_parts.proofs.mended.mended_by.Goals as goal

pub returns-in-Ok-clause-text : goal.returns-in-Ok-clause-text
returns-in-Ok-clause-text g c =
    meets_front (input.Book 1) refusal_for (mended c.args.changes.now) (max_book + 1) _ _ _ c.as_slice.result.now (Ok c.in-Ok.text.items)
    (omega (arith, c.in_ok-text.ensures.source.read.failed)) (mended-take c.args.changes.now) (rw c.as_slice.ensures.value c.in_ok-text.ensures.front)
    c.in-Ok.ensures.book

pub returns-clause-refused : goal.returns-clause-refused
returns-clause-refused g c =
    meets_fault (input.Book 1) refusal_for (mended c.args.changes.now) (max_book + 1) _ _ _ c.as_slice.result.now c.in-Err.fault c.refusal_for.result
    (omega (arith, c.in_ok-text.ensures.source.read.failed)) (mended-take c.args.changes.now) (rw c.as_slice.ensures.value c.in_ok-text.ensures.front)
    (mend_fault_told _ c.in-Err.fault c.refusal_for.result c.refusal_for.ensures.refusal c.in-Err.ensures.fault)
