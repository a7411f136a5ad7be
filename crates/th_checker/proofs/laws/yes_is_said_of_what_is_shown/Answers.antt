use Rattle.th_checker.proofs.AcceptLaws.{shown_accepted}
use Rattle.th_checker.proofs.YesLemmas.{yes_shown}
use Rattle.th_checker.proofs.laws.yes_is_said_of_what_is_shown.Goals as goal

pub returns-clause-shown : goal.returns-clause-shown
returns-clause-shown c = yes_shown

pub returns-clause-accepted : goal.returns-clause-accepted
returns-clause-accepted c = shown_accepted
