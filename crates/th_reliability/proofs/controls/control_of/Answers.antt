use Rattle.th_reliability.proofs.NumberLemmas.{control_enough, control_fixed, control_some}
use Rattle.th_reliability.proofs.controls.control_of.Goals as goal

pub returns-then-arc : goal.returns-then-arc
returns-then-arc c = control_fixed c.args.network.now c.arcs.result.now c.args.number _ c.arcs.ensures.arcs c.requires.between c.if-arc.true

pub overflow_sub-result : goal.overflow_sub-result
overflow_sub-result c = control_enough c.args.network.now c.args.tree.now c.arcs.result.now c.args.number _ c.weight.result c.in_ok-total.total c.requires.graph c.arcs.ensures.arcs c.weight.ensures.weight c.in_ok-total.ensures c.requires.number

pub returns : goal.returns
returns c o at = (control_some c.args.network.now c.args.tree.now c.arcs.result.now c.args.number _ c.weight.result c.in_ok-total.total c.requires.graph c.arcs.ensures.arcs c.weight.ensures.weight c.in_ok-total.ensures o at).1
