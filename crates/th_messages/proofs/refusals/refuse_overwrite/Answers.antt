use Rattle.th_messages.proofs.ErrorLemmas.{put_whole}
use Rattle.th_messages.proofs.refusals.refuse_overwrite.Goals as goal

pub returns-clause-reported : goal.returns-clause-reported
returns-clause-reported g c = λ clear. put_whole g.F.Folder.tells _ _ _ _ _ _ c.begin_line-line.ensures.begun c.put_overwrite.ensures (c.end_line.ensures.written clear)
