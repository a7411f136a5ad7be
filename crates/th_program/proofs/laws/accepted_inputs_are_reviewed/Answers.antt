use Rattle.th_program.proofs.AcceptedLemmas.{reviewed}
use Rattle.th_program.proofs.laws.accepted_inputs_are_reviewed.Goals as goal

pub returns : goal.returns
returns g c = λ old new words status from limit prefix survey. reviewed g.F.Folder.tells g.F.Folder.held g.F.Folder.has_failed g.F.Folder.failing
    g.met.F.Folder.tells_or_not old new words status c.accepted_inputs_are_refused_for_memory_alone.ensures.adjusted from limit prefix survey
