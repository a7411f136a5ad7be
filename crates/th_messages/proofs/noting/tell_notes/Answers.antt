use Rattle.th_messages.proofs.ErrorLemmas.{put_whole}
use Rattle.th_messages.proofs.noting.tell_notes.Goals as goal

pub returns-clause-noted : goal.returns-clause-noted
returns-clause-noted g c = λ some clear. put_whole g.F.Folder.tells _ _ _ _ _ _ c.begin_line-line.ensures.begun c.put_notes.ensures (c.end_line.ensures.written clear)
