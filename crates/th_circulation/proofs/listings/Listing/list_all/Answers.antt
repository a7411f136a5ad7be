use Rattle.std.proofs.Common.{arith}
use Rattle.th_circulation.proofs.ListingLemmas.{all_more}
use Rattle.th_circulation.proofs.listings.Listing.list_all.Goals as goal

pub links-preserved : goal.links-preserved
links-preserved c =
    let i = c.links.invariant in
    let first = c.list.ensures in
    let second = c.list-in-links.ensures in
    record {
      few = omega arith;
      room = record { arcs = omega arith; slots = omega arith };
      listed = second.listed;
      all = all_more c.args.graph.now.weights.now c.args.state.now.flows.items c.links.self.slots.items c.list-in-links.new.self.slots.items c.links.place i.all (λ other there. second.kept other (first.kept other there)) (λ room. second.kept _ (first.slot room)) second.slot;
    }
