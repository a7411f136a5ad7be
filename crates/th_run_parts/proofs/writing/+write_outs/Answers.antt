use Rattle.std.proofs.Common.{◌≡◌, Err, rules}
use Rattle.th_run_parts.proofs.OutputLemmas.{failed_later, first_failed, writable_later}
use Rattle.th_run_parts.proofs.writing.+write_outs.Goals as goal

pub returns-in_err-write_out-clause-written : goal.returns-in_err-write_out-clause-written
returns-in_err-write_out-clause-written g t c =
    let is : c.from_residual.result ≡ Err c.in_err-write_out.field-0.0 = search rules in
    rw is (first_failed _ _ _ _ _ _ _ _ _ c.in-Some-split_first.ensures.cases.0 c.in-Some.ensures.cases.0 c.requires.as_many c.in_err-write_out.ensures.refused
    c.in_err-write_out.ensures.written)

pub write_outs-requires : goal.write_outs-requires
write_outs-requires g t c κs within =
    (search rules, (within, writable_later _ _ _ _ _ _ _ c.in-Some-split_first.ensures.cases.0 c.in-Some.ensures.cases.0 c.requires))

pub returns-clause-named : goal.returns-clause-named
returns-clause-named g t c = failed_later _ _ _ c.write_outs.result c.in-Some-split_first.ensures.cases.0 c.write_outs.ensures.named
