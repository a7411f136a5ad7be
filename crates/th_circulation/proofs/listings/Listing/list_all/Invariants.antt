use Rattle.std.proofs.Common.{◌*◌, ◌≤◌}
use Rattle.std.specs.Vec.{vec_len}
use Rattle.th_circulation.specs.Inside.Listings.{HasAllBefore, KeepsRoom, Lists}
use Rattle.th_circulation.proofs.listings.Listing.list_all.Given as goal

abbrev pub invariant-links : goal.invariant-links
invariant-links l = record {
  few : vec_len l.self.slots ≤ 2 * l.place;
  room : KeepsRoom l.fn.self l.self;
  listed : Lists l.graph l.state l.self;
  all : HasAllBefore l.graph.weights.now l.state.flows.items l.self.slots.items l.place;
}
