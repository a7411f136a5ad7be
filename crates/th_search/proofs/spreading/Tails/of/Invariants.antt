use Rattle.std.proofs.Common.{length}
use Rattle.th_search.specs.Inside.Spreading.{AreTails}
use Rattle.th_search.proofs.spreading.Tails.of.Given as goal

abbrev pub invariant-loop-number : goal.invariant-loop-number
invariant-loop-number l = AreTails l.vertices (length l.arcs) l.firsts.items l.followings.items
