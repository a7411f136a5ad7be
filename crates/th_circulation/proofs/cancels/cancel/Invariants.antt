use Rattle.std.proofs.Common.{◌≡◌, drop}
use Rattle.th_circulation.specs.Inside.Cycles.{HasRooms, sent}
use Rattle.th_circulation.specs.Inside.Flows.{AreBounded}
use Rattle.th_circulation.specs.Inside.Listings.{slots_at}
use Rattle.th_circulation.proofs.cancels.cancel.Given as goal

abbrev pub invariant-slots : goal.invariant-slots
invariant-slots l =
    AreBounded l.graph.weights.now l.flows
    × HasRooms l.graph.weights.now l.amount l.flows (slots_at l.slots (drop l.number-index l.cycle))
    × (sent l.amount l.flows (slots_at l.slots (drop l.number-index l.cycle)) ≡ sent l.amount l.fn.flows (slots_at l.slots l.cycle))
