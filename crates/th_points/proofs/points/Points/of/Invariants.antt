use Rattle.th_points.proofs.PointOrder.{IsFound}
use Rattle.th_points.proofs.points.Points.of.Given as goal

abbrev pub invariant-loop-o : goal.invariant-loop-o
invariant-loop-o l = IsFound l.observations l.benchmarks l.o-index l.points.names.keys l.points.ends.items
