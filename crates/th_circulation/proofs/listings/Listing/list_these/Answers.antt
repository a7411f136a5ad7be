use Rattle.std.proofs.Common.{arith}
use Rattle.th_circulation.proofs.listings.Listing.list_these.Goals as goal
use Rattle.th_circulation.proofs.listings.Listing.list_these.Goals.{then-slot-graph+then-len-most, else-slot-graph}

pub slots-preserved : goal.slots-preserved
slots-preserved c =
    let i = c.slots.invariant in
    elim c.if-slot-graph.branch [
      | then-slot-graph+then-len-most w ↦
          let next = w.list.ensures in
          let long = w.len.ensures in
          let less = w.if-len-most.true in
          rw w.self-is (record {
            few = omega arith;
            room = record { arcs = omega arith; slots = omega arith };
            listed = next.listed;
          })
      | else-slot-graph w ↦ rw w.self-is i
    ]
