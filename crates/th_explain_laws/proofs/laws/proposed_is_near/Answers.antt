use Rattle.th_explain_laws.proofs.WrongLemmas.{near, exact}
use Rattle.th_explain_laws.proofs.laws.proposed_is_near.Goals as goal

pub returns : goal.returns
returns c = record { near = near; exact = exact }
