use Rattle.th_messages.proofs.ErrorLemmas.{whole_there}
use Rattle.th_messages.proofs.errors.end_line.Goals as goal

pub returns-clause-written : goal.returns-clause-written
returns-clause-written g c = λ clear. whole_there g.F.Folder.tells g.F.Folder.held g.F.Folder.has_failed _ _ _ _ c.end.ensures c.close.ensures.closed c.requires.there clear
