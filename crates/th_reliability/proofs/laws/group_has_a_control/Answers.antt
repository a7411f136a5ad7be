use Rattle.th_reliability.proofs.ControlLemmas.{has_control}
use Rattle.th_reliability.proofs.WordLemmas.{some_word}
use Rattle.th_reliability.proofs.laws.group_has_a_control.Goals as goal

pub returns : goal.returns
returns c = record {
  control = λ survey group inside is. has_control survey.observations survey.benchmarks survey.weights group inside is.point.0 is.free is.point.1 is.point.2;
  word = some_word;
}
