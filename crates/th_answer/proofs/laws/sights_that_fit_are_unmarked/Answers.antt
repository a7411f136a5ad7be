use Rattle.th_answer.specs.Groups.{is_in_question, is_marked, is_unlike, stays_marked}
use Rattle.th_answer.proofs.LawLemmas.{fits_alone, unlike_alone}
use Rattle.th_answer.proofs.laws.sights_that_fit_are_unmarked.Goals as goal

pub returns-clause-fits : goal.returns-clause-fits
returns-clause-fits c = λ own o is. fits_alone (is_in_question own o) (is_marked own o) (stays_marked own o) (is_unlike own o) is

pub returns-clause-unlike : goal.returns-clause-unlike
returns-clause-unlike c = λ own o is. unlike_alone (is_in_question own o) (is_marked own o) (stays_marked own o) (is_unlike own o) is
