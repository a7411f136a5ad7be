use Rattle.std.proofs.Common.{take}
use Rattle.th_network.specs.Networks.{at_points_of, points_of}
use Rattle.th_answer.specs.Inside.Raised.{AreRaised}
use Rattle.th_answer.proofs.correcting.raised.Given as goal

abbrev pub invariant-loop-k : goal.invariant-loop-k
invariant-loop-k l = AreRaised l.number l.growth (take l.k (points_of l.network)) (at_points_of l.network l.heights) l.own.items
