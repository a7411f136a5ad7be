use Rattle.std.proofs.Common.{◌≡◌, ◌≤◌, length}
use Rattle.th_cuts.proofs.trees.Tree.spread_from.Given as goal

abbrev pub invariant-loop-number : goal.invariant-loop-number
invariant-loop-number l = record {
  flow : l.self.flow.now ≡ l.fn.self.flow.now;
  grown : length l.fn.self.steps.items ≤ length l.self.steps.items;
}
