use Rattle.th_circulation.proofs.ExtremesExist.{highest_exists, lowest_exists}
use Rattle.th_circulation.proofs.laws.lowest_and_highest_exist.Goals as goal

pub returns : goal.returns
returns c = record {
  low = λ survey. lowest_exists survey.observations survey.benchmarks survey.weights;
  high = λ survey. highest_exists survey.observations survey.benchmarks survey.weights;
}
