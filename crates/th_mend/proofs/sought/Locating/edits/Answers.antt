use Rattle.std.proofs.Common.{◌≡◌, ◌∙◌, List, Result, subst, sym}
use Rattle.th_mend.specs.Inside.Stops.{IsStopOf}
use Rattle.th_mend.specs.declared.edits.Edit.{Edit}
use Rattle.th_mend.specs.declared.faults.RowFault.{RowFault}
use Rattle.th_mend.proofs.LocatedLemmas.{edits_all}
use Rattle.th_mend.proofs.sought.Locating.edits.Goals as goal

pub returns-in-Ok-clause-edits : goal.returns-in-Ok-clause-edits
returns-in-Ok-clause-edits c = λ changes number parsed seen.
    sym (edits_all changes number parsed c.args.self.now c.as_slice.result.now c.new-edits.result.items seen c.as_slice.ensures.value c.new-edits.ensures.items) ∙ c.in-Ok.ensures.edits

pub returns-in-Err-clause-fault : goal.returns-in-Err-clause-fault
returns-in-Err-clause-fault c = λ changes number parsed seen.
    subst (λ (owed : Result (List Edit) RowFault). IsStopOf owed c.in-Err.stop)
    (edits_all changes number parsed c.args.self.now c.as_slice.result.now c.new-edits.result.items seen c.as_slice.ensures.value c.new-edits.ensures.items) c.in-Err.ensures.fault
