use Rattle.std.proofs.Common.{ℕ, ◌≤◌, ◌<◌, get_or}
use Rattle.th_circulation.specs.Inside.Cycles.{HasRoom}
use Rattle.th_circulation.specs.Inside.Listings.{slot_at}
use Rattle.th_circulation.proofs.cancels.least_room.Given as goal
use Rattle.th_circulation.specs.Inside.Bounds.{most_room}

abbrev pub invariant-loop-number : goal.invariant-loop-number
invariant-loop-number l =
    (1 ≤ l.least)
    × (l.least ≤ most_room)
    × ((k : ℕ) → k < l.number-index → HasRoom l.graph.weights.now l.least l.flows (slot_at l.slots (get_or l.cycle k 0)))
