use Rattle.th_names.proofs.LeftLemmas.{little_more}
use Rattle.th_names.proofs.laws.names_leave_little_more.Goals as goal

pub returns : goal.returns
returns c = little_more
