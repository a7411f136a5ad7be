use Rattle.std.proofs.Common.{pos, ◌+ℤ◌, ◌-ℤ◌, if◌then◌else◌, arith, ap, Bool}
use Rattle.std.proofs.lemmas.Int.{ints}
use Rattle.std.specs.Prelude.{slice_index_or}
use Rattle.th_circulation.proofs.GraphLemmas.{flows_long, light_at, room_is}
use Rattle.th_circulation.proofs.graphs.LinkGraph.room.Goals as goal

pub bounds-flows-slot : goal.bounds-flows-slot
bounds-flows-slot c =
    let long = flows_long c.args.self.now.weights.now c.args.flows.now c.requires.flows in
    let sized = c.args.self.now.graph.sized in
    omega arith

pub overflow_sub-result : goal.overflow_sub-result
overflow_sub-result c =
    let light = light_at c.args.self.now.vertices c.args.self.now.links.now c.args.self.now.weights.now c.args.flows.now c.args.slot c.args.self.now.graph c.requires.flows c.requires.place in
    omega (arith, ints)

pub overflow_add-result : goal.overflow_add-result
overflow_add-result c =
    let light = light_at c.args.self.now.vertices c.args.self.now.links.now c.args.self.now.weights.now c.args.flows.now c.args.slot c.args.self.now.graph c.requires.flows c.requires.place in
    omega (arith, ints)

pub returns-then-slot-clause-room : goal.returns-then-slot-clause-room
returns-then-slot-clause-room c = λ amount.
    let light = light_at c.args.self.now.vertices c.args.self.now.links.now c.args.self.now.weights.now c.args.flows.now c.args.slot c.args.self.now.graph c.requires.flows c.requires.place in
    let w = slice_index_or c.args.self.now.weights.now c.args.slot.place 0 in
    let f = slice_index_or c.args.flows.now c.args.slot.place (pos 0) in
    let turned = ap (λ (b : Bool). if b then (pos w -ℤ f) else (pos w +ℤ f)) c.if-slot.true in
    room_is c.args.slot.is_forward w f _ amount light.bounded (omega (arith, ints))

pub returns-then-slot-clause-some : goal.returns-then-slot-clause-some
returns-then-slot-clause-some c =
    let light = light_at c.args.self.now.vertices c.args.self.now.links.now c.args.self.now.weights.now c.args.flows.now c.args.slot c.args.self.now.graph c.requires.flows c.requires.place in
    omega (arith, ints)

pub returns-then-slot-clause-small : goal.returns-then-slot-clause-small
returns-then-slot-clause-small c =
    let light = light_at c.args.self.now.vertices c.args.self.now.links.now c.args.self.now.weights.now c.args.flows.now c.args.slot c.args.self.now.graph c.requires.flows c.requires.place in
    omega (arith, ints)

pub returns-else-slot-clause-room : goal.returns-else-slot-clause-room
returns-else-slot-clause-room c = λ amount.
    let light = light_at c.args.self.now.vertices c.args.self.now.links.now c.args.self.now.weights.now c.args.flows.now c.args.slot c.args.self.now.graph c.requires.flows c.requires.place in
    let w = slice_index_or c.args.self.now.weights.now c.args.slot.place 0 in
    let f = slice_index_or c.args.flows.now c.args.slot.place (pos 0) in
    let turned = ap (λ (b : Bool). if b then (pos w -ℤ f) else (pos w +ℤ f)) c.if-slot.false in
    room_is c.args.slot.is_forward w f _ amount light.bounded (omega (arith, ints))

pub returns-else-slot-clause-some : goal.returns-else-slot-clause-some
returns-else-slot-clause-some c =
    let light = light_at c.args.self.now.vertices c.args.self.now.links.now c.args.self.now.weights.now c.args.flows.now c.args.slot c.args.self.now.graph c.requires.flows c.requires.place in
    omega (arith, ints)

pub returns-else-slot-clause-small : goal.returns-else-slot-clause-small
returns-else-slot-clause-small c =
    let light = light_at c.args.self.now.vertices c.args.self.now.links.now c.args.self.now.weights.now c.args.flows.now c.args.slot c.args.self.now.graph c.requires.flows c.requires.place in
    omega (arith, ints)
