use Rattle.th_circulation.proofs.BetweenLemmas.{between_best, between_reached}
use Rattle.th_circulation.proofs.laws.heights_between_are_best.Goals as goal

pub returns : goal.returns
returns c = record { best = between_best; reached = between_reached }
