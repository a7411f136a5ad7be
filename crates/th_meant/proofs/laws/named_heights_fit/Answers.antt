use Rattle.th_meant.proofs.LawLemmas.{named_few, named_fits, named_ordered}
use Rattle.th_meant.proofs.OrderLemmas.{nearer-apart}
use Rattle.th_meant.proofs.laws.named_heights_fit.Goals as goal

pub returns-clause-fits : goal.returns-clause-fits
returns-clause-fits c = named_fits

pub returns-clause-few : goal.returns-clause-few
returns-clause-few c = named_few

pub returns-clause-ordered : goal.returns-clause-ordered
returns-clause-ordered c = named_ordered

pub returns-clause-apart : goal.returns-clause-apart
returns-clause-apart c = nearer-apart
