use Rattle.th_program.proofs.AcceptedLemmas.{paged}
use Rattle.th_program.proofs.laws.accepted_inputs_are_paged.Goals as goal

pub returns : goal.returns
returns g c = λ old new words status from limit prefix title survey. paged g.F.Folder.tells g.F.Folder.held g.F.Folder.has_failed g.F.Folder.failing
    g.met.F.Folder.tells_or_not old new words status c.accepted_inputs_are_refused_for_memory_alone.ensures.adjusted from limit prefix title survey
