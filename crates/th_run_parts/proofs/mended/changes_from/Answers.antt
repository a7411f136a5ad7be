use Rattle.std.proofs.Common.{◌+◌, Ok, refl, arith}
use Rattle.th_mend.specs.Limits.{max_changes}
use Rattle.th_mend.specs.Tables.{changes_of}
use Rattle.th_run_parts.proofs.Givens.{meets_fault, meets_front}
use Rattle.th_inputs.specs.declared.inputs.Input.TheVariants as input
use Rattle.th_run_parts.specs.declared.refusals.Refusal.TheVariants as refusal
use Rattle.th_run_parts.proofs.MendingLemmas.{change_fault, changes_of-take}
use Rattle.th_run_parts.proofs.mended.changes_from.Goals as goal

pub returns-in-Ok-clause-changes : goal.returns-in-Ok-clause-changes
returns-in-Ok-clause-changes g c =
    meets_front input.Changes refusal.Changes changes_of (max_changes + 1) _ _ _ c.as_slice.result.now (Ok c.in-Ok.changes.items)
    (omega (arith, c.in_ok-text.ensures.source.read.failed)) changes_of-take (rw c.as_slice.ensures.value c.in_ok-text.ensures.front)
    c.in-Ok.ensures.table

pub returns-clause-refused : goal.returns-clause-refused
returns-clause-refused g c =
    meets_fault input.Changes refusal.Changes changes_of (max_changes + 1) _ _ _ c.as_slice.result.now c.in-Err.fault (refusal.Changes c.in-Err.fault)
    (omega (arith, c.in_ok-text.ensures.source.read.failed)) changes_of-take (rw c.as_slice.ensures.value c.in_ok-text.ensures.front)
    (change_fault refusal.Changes _ _ _ (λ e. absurd (c.in_default.not-NoMemory e)) (λ real. refl) c.in-Err.ensures.fault)
