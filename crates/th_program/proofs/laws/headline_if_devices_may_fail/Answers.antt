use Rattle.th_program.proofs.HeadlineLemmas.{adjusted, confirmed}
use Rattle.th_program.proofs.laws.headline_if_devices_may_fail.Goals as goal

pub returns-clause-adjusted : goal.returns-clause-adjusted
returns-clause-adjusted g c =
    adjusted g.F.Folder.tells g.F.Folder.held g.F.Folder.failing
    g.met.F.Folder.tells_or_not c.accepted_inputs_are_refused_for_memory_alone.ensures.adjusted

pub returns-clause-confirmed : goal.returns-clause-confirmed
returns-clause-confirmed g c =
    confirmed g.F.Folder.tells g.F.Folder.held g.F.Folder.failing
    c.accepted_inputs_are_refused_for_memory_alone.ensures.checked
    c.printed_certificate_is_accepted.ensures.owed c.printed_certificate_is_accepted.ensures.answered
