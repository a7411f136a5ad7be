use Rattle.std.proofs.Common.{◌∙◌, arith}
use Rattle.th_points.proofs.PointOrder.{found_more, found_all}
use Rattle.th_points.proofs.points.Points.of.Goals as goal

pub loop-o-preserved : goal.loop-o-preserved
loop-o-preserved c =
    found_more _ _ _ c.o-item.result _ _ _ _ (omega arith) c.o-item.is c.loop-o.invariant (c.reseed_many.ensures ∙ c.in_ok-add.ensures.names) c.in_ok-add.ensures.ends

pub returns : goal.returns
returns c =
    found_all _ _ _ _ _ _ (omega arith) c.loop-o.invariant c.in_ok-add_benchmarks.ensures
