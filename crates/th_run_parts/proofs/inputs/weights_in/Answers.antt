use Rattle.std.proofs.Common.{◌+◌, Ok, refl, arith}
use Rattle.th_tables.specs.Limits.{max_table}
use Rattle.th_tables.specs.Tables.{weights_of, too_long}
use Rattle.th_run_parts.proofs.Fronts.{weights_long, weights_of-take}
use Rattle.th_run_parts.proofs.Givens.{table_fault, meets_fault, meets_front}
use Rattle.th_run_parts.proofs.ReaderLemmas.{whole_told}
use Rattle.th_inputs.specs.declared.inputs.Input.TheVariants as input
use Rattle.th_run_parts.specs.declared.refusals.Refusal.TheVariants as refusal
use Rattle.th_run_parts.proofs.inputs.weights_in.Goals as goal

pub returns-in-Ok-clause-answer : goal.returns-in-Ok-clause-answer
returns-in-Ok-clause-answer g c =
    meets_front input.Weights refusal.Weights weights_of (max_table + 1) _ _ _ c.as_slice-2.result.now (Ok c.in-Ok.weights)
    (omega (arith, c.in_ok-text.ensures.source.read.failed)) weights_of-take (rw c.as_slice-2.ensures.value c.in_ok-text.ensures.front)
    c.in-Ok.ensures.table

pub returns-in-Ok-clause-summed : goal.returns-in-Ok-clause-summed
returns-in-Ok-clause-summed g c = record {
  text = c.in_ok-text.text.items;
  is_told = whole_told max_table too_long weights_of weights_long _ c.in_ok-text.text.items c.in-Ok.weights (rw c.as_slice-2.ensures.value at c.in-Ok.ensures.table) c.in_ok-text.ensures.front;
  joined = rw c.as_slice.ensures.value at c.in_ok-add_sum.ensures;
}

pub returns-clause-answer : goal.returns-clause-answer
returns-clause-answer g c =
    meets_fault input.Weights refusal.Weights weights_of (max_table + 1) _ _ _ c.as_slice-2.result.now c.in-Err.fault (refusal.Weights c.in-Err.fault)
    (omega (arith, c.in_ok-text.ensures.source.read.failed)) weights_of-take (rw c.as_slice-2.ensures.value c.in_ok-text.ensures.front)
    (table_fault refusal.Weights _ _ _ (λ e. absurd (c.in_default.not-NoMemory e)) (λ real. refl) c.in-Err.ensures.fault)
