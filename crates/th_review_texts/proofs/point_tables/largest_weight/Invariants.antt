use Rattle.std.proofs.Common.{◌≡◌, fold, max, take}
use Rattle.th_review_texts.proofs.point_tables.largest_weight.Given as goal

abbrev pub invariant-loop-weight : goal.invariant-loop-weight
invariant-loop-weight l = l.largest ≡ fold max 0 (take l.weight-index l.weights)
