use Rattle.th_program.proofs.AcceptedLemmas.{listed}
use Rattle.th_program.proofs.laws.accepted_book_is_listed.Goals as goal

pub returns : goal.returns
returns g c = λ old new words status name observations. listed g.F.Folder.tells g.F.Folder.held g.F.Folder.has_failed g.F.Folder.failing
    g.met.F.Folder.tells_or_not old new words status name observations
