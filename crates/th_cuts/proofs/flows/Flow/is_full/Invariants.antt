use Rattle.std.proofs.Common.{ℕ, ◌<◌, true, false}
use Rattle.th_cuts.specs.Drains.{on_side}
use Rattle.th_cuts.specs.Inside.Flows.{IsFullOut}
use Rattle.th_cuts.proofs.flows.Flow.is_full.Given as goal

abbrev pub invariant-loop-number : goal.invariant-loop-number
invariant-loop-number l = (k : ℕ) → k < l.number → IsFullOut l.self.drain.graph.now.edges.items l.self.flows.items (on_side l.side) (record { edge = k; is_forward = true }) × IsFullOut l.self.drain.graph.now.edges.items l.self.flows.items (on_side l.side) (record { edge = k; is_forward = false })
