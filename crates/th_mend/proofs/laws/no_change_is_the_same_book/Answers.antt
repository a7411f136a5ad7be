use Rattle.th_mend.proofs.LawLemmas.{none_changed}
use Rattle.th_mend.proofs.laws.no_change_is_the_same_book.Goals as goal

pub returns : goal.returns
returns c = none_changed
