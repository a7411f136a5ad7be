use Rattle.th_program.proofs.AcceptedLemmas.{mended}
use Rattle.th_program.proofs.laws.accepted_changes_mend_a_book.Goals as goal

pub returns : goal.returns
returns g c = λ old new words status changes name text. mended g.F.Folder.tells g.F.Folder.held g.F.Folder.has_failed g.F.Folder.failing
    g.met.F.Folder.tells_or_not old new words status changes name text
