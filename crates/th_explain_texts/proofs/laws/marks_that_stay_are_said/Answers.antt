use Rattle.th_explain_texts.proofs.StayLemmas.{said}
use Rattle.th_explain_texts.proofs.laws.marks_that_stay_are_said.Goals as goal

pub returns : goal.returns
returns c = λ summary row rows named readings stay. said summary row rows named readings stay
