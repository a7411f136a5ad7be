use Rattle.th_checker.proofs.AcceptLaws.{read_1_accepted, read_2_accepted}
use Rattle.th_checker.proofs.laws.text_is_read_and_accepted.Goals as goal

pub returns-clause-version_1 : goal.returns-clause-version_1
returns-clause-version_1 c = read_1_accepted

pub returns-clause-version_2 : goal.returns-clause-version_2
returns-clause-version_2 c = read_2_accepted
