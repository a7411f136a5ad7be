use Rattle.std.proofs.Common.{◌<◌, length, arith}
use Rattle.std.proofs.lemmas.Grind.{common_steps}
use Rattle.th_network.specs.Networks.{vertices_of}
use Rattle.th_reliability.proofs.NumberLemmas.{edges_light, edges_pushed, edges_within}
use Rattle.th_reliability.proofs.edges.edges_of.Goals as goal

pub loop-number-preserved : goal.loop-number-preserved
loop-number-preserved c =
    let network = c.args.network.now in
    let i = c.loop-number.number in
    let inv = c.loop-number.invariant in
    let pushed = c.in_ok-push.ensures.items in
    let within : i < length network.observations = grind (arith, common_steps) in
    record {
      edges = edges_pushed network c.arcs-arcs.result.now i _ c.weight.result c.loop-number.edges.items c.push.new.self.items c.arcs-arcs.ensures.arcs within c.weight.ensures.weight inv.edges pushed;
      ends = edges_within (vertices_of network) c.loop-number.edges.items c.push.new.self.items _ inv.ends (c.arcs-arcs.ensures.ends i _ (grind (arith, common_steps))) pushed;
      light = edges_light c.loop-number.edges.items c.push.new.self.items _ i inv.light c.weight.ensures.in_range pushed;
    }
