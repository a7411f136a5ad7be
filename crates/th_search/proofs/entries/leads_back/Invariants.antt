use Rattle.std.proofs.Common.{◌<◌, length}
use Rattle.th_search.specs.Inside.Entries.{Meets}
use Rattle.th_search.proofs.entries.leads_back.Given as goal

abbrev pub invariant-loop-vertex : goal.invariant-loop-vertex
invariant-loop-vertex l = (l.vertex < length l.entries) × (Meets l.arcs l.entries l.vertex l.goal → Meets l.arcs l.entries l.from l.goal)

abbrev pub decreases-loop-vertex : goal.decreases-loop-vertex
decreases-loop-vertex l = l.steps
