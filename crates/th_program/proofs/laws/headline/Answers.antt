use Rattle.th_program.proofs.HeadlineLemmas.{believed, sure}
use Rattle.th_program.proofs.laws.headline.Goals as goal

pub returns-clause-adjusted : goal.returns-clause-adjusted
returns-clause-adjusted g c =
    λ old new status from limit prefix survey ended accepted spares none.
    sure _ _ status (c.headline_if_devices_may_fail.ensures.adjusted old new status from limit prefix survey ended accepted spares) none

pub returns-clause-confirmed : goal.returns-clause-confirmed
returns-clause-confirmed g c =
    λ old new status from certificate survey limit texts ended accepted outputs there none.
    sure _ _ status (c.headline_if_devices_may_fail.ensures.confirmed old new status from certificate survey limit texts ended accepted outputs there) none

pub returns-clause-believed : goal.returns-clause-believed
returns-clause-believed g c =
    believed g.F.Folder.tells g.F.Folder.held g.F.Folder.failing
