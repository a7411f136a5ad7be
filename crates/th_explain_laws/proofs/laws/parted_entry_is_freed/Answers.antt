use Rattle.th_explain_laws.proofs.EntryLemmas.{parted_freed}
use Rattle.th_explain_laws.proofs.laws.parted_entry_is_freed.Goals as goal

pub returns : goal.returns
returns c = λ survey sights station own new heights apart free all. parted_freed survey sights station own new apart free all heights
