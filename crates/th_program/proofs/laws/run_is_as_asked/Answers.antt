use Rattle.th_program.proofs.HeadlineLemmas.{adjust_ended, check_ended}
use Rattle.th_program.proofs.laws.run_is_as_asked.Goals as goal

pub returns-clause-adjusted : goal.returns-clause-adjusted
returns-clause-adjusted g c = adjust_ended g.F.Folder.tells g.F.Folder.held g.F.Folder.has_failed g.F.Folder.failing

pub returns-clause-checked : goal.returns-clause-checked
returns-clause-checked g c = check_ended g.F.Folder.tells g.F.Folder.held g.F.Folder.has_failed g.F.Folder.failing
