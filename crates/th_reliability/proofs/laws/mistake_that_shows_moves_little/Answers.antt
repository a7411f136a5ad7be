use Rattle.th_reliability.proofs.NearLemmas.{moves_little}
use Rattle.th_reliability.proofs.OneLemmas.{one_near}
use Rattle.th_reliability.proofs.laws.mistake_that_shows_moves_little.Goals as goal

pub returns : goal.returns
returns c = record {
  near = λ survey. moves_little survey.observations survey.benchmarks survey.weights;
  one = λ survey truth heights group o control point strength only. one_near survey group o only truth heights control strength point;
}
