use Rattle.std.proofs.Common.{◌≡◌, ℕ, ◌<◌, get_or, true}
use Rattle.th_cuts.specs.Inside.Trees.{reached}
use Rattle.th_cuts.proofs.trees.Tree.has_all.Given as goal

abbrev pub invariant-loop-vertex : goal.invariant-loop-vertex
invariant-loop-vertex l = (k d : ℕ) → k < l.vertex-index → reached l.self.places.items (get_or l.wanted k d) ≡ true
