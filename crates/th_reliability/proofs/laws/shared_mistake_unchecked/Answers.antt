use Rattle.th_reliability.proofs.UnmarkedLemmas.{alone, control_none, unmarked}
use Rattle.th_reliability.proofs.laws.shared_mistake_unchecked.Goals as goal

pub returns : goal.returns
returns c = record { unmarked = λ survey. unmarked survey.observations survey.benchmarks survey.weights; alone = alone; control = control_none }
