use Rattle.th_circulation.proofs.BestLemmas.{best_is_shown, shown_is_best}
use Rattle.th_circulation.proofs.laws.circulation_shows_all_best.Goals as goal

pub returns : goal.returns
returns c = record {
  shown = λ survey flows heights best are least. best_is_shown survey.observations survey.benchmarks survey.weights heights best flows are.kept are.circulation are.shows least;
  best = λ survey flows heights are. shown_is_best survey.observations survey.benchmarks survey.weights heights flows are.kept are.circulation are.shows;
}
