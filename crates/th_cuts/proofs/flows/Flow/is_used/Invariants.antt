use Rattle.std.proofs.Common.{◌≡◌, ℕ, ◌<◌, true}
use Rattle.th_cuts.specs.Drains.{on_side, room_at}
use Rattle.th_cuts.proofs.flows.Flow.is_used.Given as goal

abbrev pub invariant-loop-vertex : goal.invariant-loop-vertex
invariant-loop-vertex l = (k : ℕ) → k < l.vertex → on_side l.side k ≡ true → room_at l.self.left.items k ≡ 0
