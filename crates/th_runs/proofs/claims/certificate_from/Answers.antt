use Rattle.std.proofs.Common.{◌+◌, Ok, refl, arith}
use Rattle.th_certificate.specs.Faults.{too_long}
use Rattle.th_certificate.specs.Reading.{certificate_of}
use Rattle.th_certificate.specs.Limits.{max_certificate}
use Rattle.th_run_parts.proofs.Fronts.{certificate_long, certificate_of-take}
use Rattle.th_run_parts.proofs.Givens.{certificate_fault, meets_fault, meets_front}
use Rattle.th_run_parts.proofs.ReaderLemmas.{whole_told}
use Rattle.th_inputs.specs.declared.inputs.Input.TheVariants as input
use Rattle.th_run_parts.specs.declared.refusals.Refusal.TheVariants as refusal
use Rattle.th_runs.proofs.claims.certificate_from.Goals as goal

pub returns-in-Ok-clause-answer : goal.returns-in-Ok-clause-answer
returns-in-Ok-clause-answer g c =
    meets_front input.Certificate refusal.Certificate certificate_of (max_certificate + 1) _ _ _ c.as_slice-2.result.now (Ok c.in-Ok.certificate)
    (omega (arith, c.in_ok-text.ensures.source.read.failed)) certificate_of-take (rw c.as_slice-2.ensures.value c.in_ok-text.ensures.front)
    c.in-Ok.ensures.certificate

pub returns-in-Ok-clause-summed : goal.returns-in-Ok-clause-summed
returns-in-Ok-clause-summed g c = λ is. record {
  text = c.in_ok-text.text.items;
  is_told = whole_told max_certificate too_long certificate_of certificate_long _ c.in_ok-text.text.items c.in-Ok.certificate (rw c.as_slice-2.ensures.value at c.in-Ok.ensures.certificate) c.in_ok-text.ensures.front;
  joined = rw c.as_slice.ensures.value at (c.in_ok-add_sum_if.ensures is);
}

pub returns-clause-answer : goal.returns-clause-answer
returns-clause-answer g c =
    meets_fault input.Certificate refusal.Certificate certificate_of (max_certificate + 1) _ _ _ c.as_slice-2.result.now c.in-Err.fault (refusal.Certificate c.in-Err.fault)
    (omega (arith, c.in_ok-text.ensures.source.read.failed)) certificate_of-take (rw c.as_slice-2.ensures.value c.in_ok-text.ensures.front)
    (certificate_fault refusal.Certificate _ _ _ (λ e. absurd (c.in_default.not-NoMemory e)) (λ real. refl) c.in-Err.ensures.fault)
