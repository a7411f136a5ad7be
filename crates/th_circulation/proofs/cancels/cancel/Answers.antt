use Rattle.std.proofs.Common.{refl}
use Rattle.std.proofs.lemmas.List.Elements.{recursion_from_All}
use Rattle.th_circulation.specs.Inside.Cycles.{HasRoom}
use Rattle.th_circulation.specs.Inside.Listings.{slots_at}
use Rattle.th_circulation.proofs.CycleLemmas.{rooms_from_once}
use Rattle.th_circulation.proofs.cancels.cancel.Goals as goal

pub slots-init : goal.slots-init
slots-init c =
    let weights = c.args.graph.now.weights.now in
    let slots = slots_at c.args.slots.now c.args.cycle.now in
    (c.requires.ready.bounded, rooms_from_once c.args.graph.now.links.now weights c.least_room-amount.result c.args.flows.now slots c.requires.ready.bounded c.requires.once (recursion_from_All (HasRoom weights c.least_room-amount.result c.args.flows.now) slots c.least_room-amount.ensures.room), refl)
