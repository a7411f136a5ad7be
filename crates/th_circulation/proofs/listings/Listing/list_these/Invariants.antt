use Rattle.std.proofs.Common.{◌*◌, ◌≤◌, length}
use Rattle.std.specs.Vec.{vec_len}
use Rattle.th_circulation.specs.Inside.Listings.{KeepsRoom, Lists}
use Rattle.th_circulation.proofs.listings.Listing.list_these.Given as goal

abbrev pub invariant-slots : goal.invariant-slots
invariant-slots l = record {
  few : vec_len l.self.slots ≤ 2 * length l.graph.links.now;
  room : KeepsRoom l.fn.self l.self;
  listed : Lists l.graph l.state l.self;
}
