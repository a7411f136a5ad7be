use Rattle.std.proofs.Common.{pos, ◌-ℤ◌, if◌then◌else◌, Bool, ap, arith}
use Rattle.std.proofs.lemmas.Int.{ints}
use Rattle.th_circulation.proofs.CycleLemmas.{set_bounded}
use Rattle.th_circulation.proofs.GraphLemmas.{flows_long, light_at}
use Rattle.th_circulation.proofs.cancels.send_along.Goals as goal

pub slice_copy_out-flows : goal.slice_copy_out-flows
slice_copy_out-flows c =
    let long = flows_long c.args.graph.now.weights.now c.args.flows.now c.requires.flows in
    let sized = c.args.graph.now.graph.sized in
    omega arith

pub bounds-flows-place : goal.bounds-flows-place
bounds-flows-place c =
    let long = flows_long c.args.graph.now.weights.now c.args.flows.now c.requires.flows in
    let sized = c.args.graph.now.graph.sized in
    omega arith

pub slice_copy_out-flows-else-slot : goal.slice_copy_out-flows-else-slot
slice_copy_out-flows-else-slot c =
    let long = flows_long c.args.graph.now.weights.now c.args.flows.now c.requires.flows in
    let sized = c.args.graph.now.graph.sized in
    omega arith

pub bounds-flows-place-else-slot : goal.bounds-flows-place-else-slot
bounds-flows-place-else-slot c =
    let long = flows_long c.args.graph.now.weights.now c.args.flows.now c.requires.flows in
    let sized = c.args.graph.now.graph.sized in
    omega arith

pub returns-then-slot-clause-flows : goal.returns-then-slot-clause-flows
returns-then-slot-clause-flows c =
    let light = light_at c.args.graph.now.vertices c.args.graph.now.links.now c.args.graph.now.weights.now c.args.flows.now c.args.slot c.args.graph.now.graph c.requires.flows c.requires.place in
    let turned = ap (λ (b : Bool). if b then pos c.args.amount else (pos 0 -ℤ pos c.args.amount)) c.if-slot.true in
    let room = c.requires.room in
    set_bounded c.args.graph.now.weights.now c.args.flows.now c.args.slot.place _ c.requires.flows (omega (arith, ints))

pub returns-else-slot-clause-flows : goal.returns-else-slot-clause-flows
returns-else-slot-clause-flows c =
    let light = light_at c.args.graph.now.vertices c.args.graph.now.links.now c.args.graph.now.weights.now c.args.flows.now c.args.slot c.args.graph.now.graph c.requires.flows c.requires.place in
    let turned = ap (λ (b : Bool). if b then pos c.args.amount else (pos 0 -ℤ pos c.args.amount)) c.if-slot.false in
    let room = c.requires.room in
    set_bounded c.args.graph.now.weights.now c.args.flows.now c.args.slot.place _ c.requires.flows (omega (arith, ints))
