use Rattle.th_meant.proofs.RowLawLemmas.{all_meant}
use Rattle.th_meant.proofs.row_laws.named_may_have_been_meant.Goals as goal

pub returns : goal.returns
returns c = λ entries limit rows named are. all_meant entries limit rows named c.named_are_candidates.ensures are
