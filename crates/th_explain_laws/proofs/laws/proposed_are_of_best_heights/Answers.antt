use Rattle.th_explain_laws.proofs.BenchmarkLemmas as benchmark
use Rattle.th_explain_laws.proofs.EntryLemmas as entry
use Rattle.th_explain_laws.proofs.LeftOutLemmas.{best_of_proposed, proposed_at_best}
use Rattle.th_explain_laws.proofs.laws.proposed_are_of_best_heights.Goals as goal

pub returns : goal.returns
returns c = record {
  of_sight = λ number before after o benchmarks weights x one none. best_of_proposed number before after o benchmarks weights one none x;
  sight = λ number before after o benchmarks weights heights one none. proposed_at_best number before after o benchmarks weights one none heights;
  of_benchmark = λ survey name fewer x without. benchmark.best_of_proposed survey name fewer without x;
  benchmark = λ survey name fewer heights without. benchmark.proposed_at_best survey name fewer without heights;
  of_entry = λ survey sights station own new x apart free all. entry.best_of_proposed survey sights station own new apart free all x;
  entry = λ survey sights station own new heights apart free all. entry.proposed_at_best survey sights station own new apart free all heights;
}
