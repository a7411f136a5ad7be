use Rattle.th_program.proofs.AcceptedLemmas.{booked, booked_of_heights}
use Rattle.th_program.proofs.laws.accepted_table_becomes_a_book.Goals as goal

pub returns-clause-differences : goal.returns-clause-differences
returns-clause-differences g c = λ old new words status name text. booked g.F.Folder.tells g.F.Folder.held g.F.Folder.has_failed g.F.Folder.failing
    g.met.F.Folder.tells_or_not old new words status name text

pub returns-clause-heights : goal.returns-clause-heights
returns-clause-heights g c = λ old new words status name text. booked_of_heights g.F.Folder.tells g.F.Folder.held g.F.Folder.has_failed g.F.Folder.failing
    g.met.F.Folder.tells_or_not old new words status name text
