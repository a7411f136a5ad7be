use Rattle.std.proofs.Common.{◌≡◌, ℕ, ℤ, List, drop, length, subst, sym, arith}
use Rattle.th_cuts.specs.Inside.Flows.{IsFlow, carry, moved}
use Rattle.th_cuts.proofs.FlowLemmas.{flow_pulled}
use Rattle.th_cuts.proofs.TreeLemmas.{written}
use Rattle.th_cuts.proofs.flows.Flow.pull_just.Goals as goal

pub invariant_of-self : goal.invariant_of-self
invariant_of-self c =
    let flow = c.args.self.now in
    let drain = flow.drain in
    let edges = drain.graph.now.edges.items in
    let left = moved flow.left.items c.args.finish c.args.start c.args.amount in
    let is = flow_pulled edges drain.source c.args.start c.args.finish c.args.amount flow.value c.args.way drain.rooms.now flow.left.items flow.flows.items flow.flow c.requires.way c.requires.room c.requires.start c.requires.finish c.requires.within c.requires.ends c.requires.enough in
    let carries = subst (λ (flows : List ℤ). c.carry.new.flows ≡ carry c.args.amount flows c.args.way) c.deref_mut.ensures.value c.carry.ensures in
    let carried = subst (λ (flows : List ℤ). IsFlow edges drain.source drain.rooms.now left flow.value flows) (sym carries) is in
    let moves = subst (λ (room : List ℕ). IsFlow edges drain.source drain.rooms.now room flow.value c.carry.new.flows) (sym c.move_room.ensures) carried in
    let kept = c.carry.auto.flows in
    let lent = c.deref_mut.ensures.len in
    record {
      flow = subst (λ (flows : List ℤ). IsFlow edges drain.source drain.rooms.now c.move_room.new.left.items flow.value flows) (sym (written flow.flows.len c.carry.new.flows (drop (length c.carry.new.flows) flow.flows.items) (omega arith))) moves;
      few = flow.few;
    }
