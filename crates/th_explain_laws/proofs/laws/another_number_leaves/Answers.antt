use Rattle.th_explain_laws.proofs.WrongLemmas.{another_leaves, wrong_leads}
use Rattle.th_explain_laws.proofs.laws.another_number_leaves.Goals as goal

pub returns : goal.returns
returns c = record { much = another_leaves; leads = wrong_leads }
