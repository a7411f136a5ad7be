use Rattle.th_explain_laws.proofs.PrintedLemmas.{near_the_limit}
use Rattle.th_explain_laws.proofs.laws.printed_near_the_limit_lead.Goals as goal

pub returns : goal.returns
returns c = λ survey reviews limit explained are row is mild. near_the_limit survey reviews limit explained are row is mild
