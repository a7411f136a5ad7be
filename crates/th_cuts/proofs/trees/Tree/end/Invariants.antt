use Rattle.std.proofs.Common.{◌≡◌, ℕ, ◌<◌}
use Rattle.th_cuts.specs.Drains.{room_at}
use Rattle.th_cuts.specs.Inside.Trees.{step_at}
use Rattle.th_cuts.proofs.trees.Tree.end.Given as goal

abbrev pub invariant-loop-place : goal.invariant-loop-place
invariant-loop-place l = (k : ℕ) → k < l.place → room_at l.self.flow.now.left.items (step_at l.self.steps.items k).vertex ≡ 0
