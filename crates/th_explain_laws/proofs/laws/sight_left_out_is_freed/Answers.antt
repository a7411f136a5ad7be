use Rattle.th_explain_laws.proofs.LeftOutLemmas.{left_out}
use Rattle.th_explain_laws.proofs.laws.sight_left_out_is_freed.Goals as goal

pub returns : goal.returns
returns c = left_out
