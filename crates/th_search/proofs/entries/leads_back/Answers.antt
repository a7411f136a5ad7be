use Rattle.th_search.proofs.DepthLemmas.{tails_of}
use Rattle.th_search.proofs.MeetsLemmas.{meets_before}
use Rattle.th_search.proofs.entries.leads_back.Goals as goal

pub bounds-arcs-number : goal.bounds-arcs-number
bounds-arcs-number c = (c.requires.entries.each c.loop-vertex.vertex c.in-Some.number c.in-Some.is).within

pub loop-vertex-preserved : goal.loop-vertex-preserved
loop-vertex-preserved c = (
  tails_of _ _ _ c.requires.arcs c.requires.entries c.loop-vertex.vertex c.in-Some.number c.in-Some.is,
  λ met. c.loop-vertex.invariant.1 (meets_before _ _ c.loop-vertex.vertex c.in-Some.number c.args.goal c.in-Some.is met),
)
