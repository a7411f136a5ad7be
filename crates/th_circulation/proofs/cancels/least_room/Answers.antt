use Rattle.std.proofs.Common.{false, get_or, arith}
use Rattle.std.proofs.lemmas.Int.{ints}
use Rattle.th_circulation.proofs.GraphLemmas.{least_more, rooms_of_cycle}
use Rattle.th_circulation.proofs.cancels.least_room.Goals as goal
use Rattle.th_circulation.proofs.cancels.least_room.Goals.{then-room-least, else-room-least}

pub loop-number-preserved : goal.loop-number-preserved
loop-number-preserved c =
    let i = c.loop-number.number-index in
    let new = c.if-room-least.least in
    let number = get_or c.args.cycle.now i 0 in
    let within = c.requires.numbered i 0 (omega arith) in
    let one = (c.room-room.ensures.room 1).0 (c.requires.room number (record { place = 0; is_forward = false }) within) in
    elim c.if-room-least.branch [
      | then-room-least w ↦
          let is = w.least-is in
          let test = w.if-room-least.true in
          let most = c.room-room.ensures.small in
          (omega (arith, ints), omega (arith, ints), least_more c.args.graph.now.weights.now c.args.flows.now c.args.slots.now c.args.cycle.now i c.loop-number.least new c.requires.bounded c.loop-number.invariant.2 ((c.room-room.ensures.room new).1 (omega (arith, ints))) (omega (arith, ints)))
      | else-room-least w ↦
          let is = w.least-is in
          let test = w.if-room-least.false in
          let most = c.room-room.ensures.small in
          (omega (arith, ints), omega (arith, ints), least_more c.args.graph.now.weights.now c.args.flows.now c.args.slots.now c.args.cycle.now i c.loop-number.least new c.requires.bounded c.loop-number.invariant.2 ((c.room-room.ensures.room new).1 (omega (arith, ints))) (omega (arith, ints)))
    ]

pub returns-clause-room : goal.returns-clause-room
returns-clause-room c = rooms_of_cycle c.args.graph.now.weights.now c.args.flows.now c.args.slots.now c.args.cycle.now c.loop-number.least (λ k h. c.loop-number.invariant.2 k (let test = c.loop-number-test.false in omega arith))
