use Rattle.th_network.proofs.FaultLemmas.{one_fault, no_fault}
use Rattle.th_network.proofs.laws.faults_exclude_each_other.Goals as goal

pub returns : goal.returns
returns c = record { one = one_fault; none = no_fault }
