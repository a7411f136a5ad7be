use Rattle.std.proofs.Common.{arith}
use Rattle.th_search.proofs.MarkLemmas.{marked_all}
use Rattle.th_search.proofs.entries.vertex_on_cycle.Goals as goal

pub returns-clause-none : goal.returns-clause-none
returns-clause-none c is = marked_all _ _ _ _ (omega arith) c.loop-start.invariant
