use Rattle.std.proofs.Common.{List, subst, sym, length, arith}
use Rattle.th_cuts.specs.declared.edges.Edge.{Edge}
use Rattle.th_cuts.specs.Graphs.{AreAmong}
use Rattle.th_cuts.specs.Neighbours.{AreNeighbours}
use Rattle.th_cuts.proofs.graphs.Graph.of.Goals as goal

pub of-requires : goal.of-requires
of-requires c = subst (λ (es : List Edge). AreAmong c.args.vertices es) (sym c.deref.ensures.value) (c.in_ok-edges.ensures.among c.args.vertices c.requires.ends)

pub invariant_of-result : goal.invariant_of-result
invariant_of-result c =
    let less = c.in_ok-edges.ensures.lighter in
    let light = c.requires.light in
    record {
      graph = record { ends = c.in_ok-edges.ensures.among c.args.vertices c.requires.ends; light = omega arith };
      listed = subst (λ (es : List Edge). AreNeighbours c.args.vertices (length es) c.in_ok-neighbours.neighbours.starts.items c.in_ok-neighbours.neighbours.ways.items) c.deref.ensures.value c.in_ok-neighbours.ensures;
    }
