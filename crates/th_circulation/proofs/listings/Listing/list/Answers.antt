use Rattle.std.proofs.Common.{◌++◌, ◌∷◌, [], ℤ, List, ap, sym, ◌∙◌, subst, arith}
use Rattle.std.proofs.lemmas.Int.{ints}
use Rattle.std.proofs.lemmas.List.Elements.{Contains-append_left, Contains-push}
use Rattle.std.specs.List.{Contains}
use Rattle.th_search.specs.declared.arcs.Arc.{Arc}
use Rattle.th_search.specs.Potentials.{value_at}
use Rattle.th_circulation.specs.declared.slots.Slot.{Slot}
use Rattle.th_circulation.specs.Inside.Cycles.{HasRoom}
use Rattle.th_circulation.specs.Inside.Listings.{AreResidual, arc_of}
use Rattle.th_circulation.proofs.ListingLemmas.{residual_pushed}
use Rattle.th_circulation.proofs.listings.Listing.list.Goals as goal

pub returns-then-room-gt0-clause-listed : goal.returns-then-room-gt0-clause-listed
returns-then-room-gt0-clause-listed c =
    let links = c.args.graph.now.links.now in
    let weights = c.args.graph.now.weights.now in
    let state = c.args.state.now in
    let diffs = state.differences.items in
    let heights = value_at state.heights.items in
    let flows = state.flows.items in
    let slot = c.args.slot in
    let is_room = c.if-room-gt0.true in
    let room = subst (λ (fs : List ℤ). HasRoom weights 1 fs slot) c.deref.ensures.value ((c.room.ensures.room 1).1 (omega (arith, ints))) in
    let arc = c.arc.ensures.arc ∙ ap (λ (ds : List ℤ). arc_of links ds (value_at c.deref-then-room-gt0-2.result.now) slot) c.deref-then-room-gt0.ensures.value ∙ ap (λ (hs : List ℤ). arc_of links diffs (value_at hs) slot) c.deref-then-room-gt0-2.ensures.value in
    let pushed = residual_pushed links weights diffs heights flows c.args.self.now.arcs.items c.args.self.now.slots.items slot c.arc.result c.requires.listed c.requires.place room arc in
    subst (λ (arcs : List Arc). AreResidual links weights diffs heights flows arcs c.add.new.self.slots.items) (sym c.add.ensures.arcs) (subst (λ (slots : List Slot). AreResidual links weights diffs heights flows (c.args.self.now.arcs.items ++ c.arc.result ∷ []) slots) (sym c.add.ensures.slots) pushed)

pub returns-then-room-gt0-clause-slot : goal.returns-then-room-gt0-clause-slot
returns-then-room-gt0-clause-slot c = λ room. subst (λ (slots : List Slot). Contains slots c.args.slot) (sym c.add.ensures.slots) (Contains-push c.args.self.now.slots.items c.args.slot)

pub returns-then-room-gt0-clause-kept : goal.returns-then-room-gt0-clause-kept
returns-then-room-gt0-clause-kept c = λ other there. subst (λ (slots : List Slot). Contains slots other) (sym c.add.ensures.slots) (Contains-append_left c.args.self.now.slots.items (c.args.slot ∷ []) other there)

pub returns-else-room-gt0-clause-slot : goal.returns-else-room-gt0-clause-slot
returns-else-room-gt0-clause-slot c = λ room.
    let more = (c.room.ensures.room 1).0 (subst (λ (fs : List ℤ). HasRoom c.args.graph.now.weights.now 1 fs c.args.slot) (sym c.deref.ensures.value) room) in
    let none = c.if-room-gt0.false in
    absurd (omega (arith, ints))
