use Rattle.th_changes.proofs.ReroutedLemmas.{best_is_kept}
use Rattle.th_changes.proofs.cases.Case.of.Goals as goal

pub invariant_of-result : goal.invariant_of-result
invariant_of-result c = record {
  lowest = c.requires.best.low;
  at_points = c.requires.best.low_at_points;
  fits = c.requires.fit;
  circulate = best_is_kept c.args.network.now c.args.best.now c.args.fit.now.cost c.requires.best c.requires.fit.cost;
  keep = c.requires.best.low.best.kept;
  least = c.requires.fit.cost;
}
