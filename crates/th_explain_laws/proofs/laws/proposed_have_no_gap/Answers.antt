use Rattle.th_explain_laws.proofs.GapLemmas.{no_gap}
use Rattle.th_explain_laws.proofs.laws.proposed_have_no_gap.Goals as goal

pub returns : goal.returns
returns c = no_gap
