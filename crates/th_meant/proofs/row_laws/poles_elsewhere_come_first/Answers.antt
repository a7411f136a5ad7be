use Rattle.th_meant.proofs.RowLawLemmas.{poles_or_none}
use Rattle.th_meant.proofs.row_laws.poles_elsewhere_come_first.Goals as goal

pub returns : goal.returns
returns c = λ entries limit rows named are. poles_or_none entries limit rows named are
