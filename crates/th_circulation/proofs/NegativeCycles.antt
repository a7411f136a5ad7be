-- A negative cycle of arcs that stand for slots is a cycle of these slots, and saves what it costs.
use Rattle.std.proofs.Common.{◌≡◌, ℕ, false, ◌<◌, ℤ, pos, ◌-ℤ◌, ◌<ℤ◌, List, [], ◌∷◌, Option, Some, All, eqb, map, length, if◌then◌else◌, slice_get, refl, ap, sym, ◌∙◌, subst, arith}
use Rattle.std.proofs.lemmas.Int.{ints}
use Rattle.std.proofs.lemmas.List.{get_or-map, length-map}
use Rattle.std.proofs.lemmas.List.Elements.{All-cons, All-nil}
use Rattle.std.proofs.lemmas.Option.{slice_get-get_or}
use Rattle.std.specs.List.{IsDistinct}
use Rattle.std.specs.Option.{IsSomeAnd}
use Rattle.th_network.proofs.Balance.{total_by-cons}
use Rattle.th_network.specs.declared.links.Link.{Link}
use Rattle.th_search.specs.declared.arcs.Arc.{Arc}
use Rattle.th_search.specs.Walks.{IsNegativeCycle, arc_at, cost_of, entered_by, IsWalk as IsArcWalk}
use Rattle.th_circulation.specs.declared.slots.Slot.{Slot}
use Rattle.th_circulation.specs.Inside.Flows.{residual, residuals}
use Rattle.th_circulation.specs.Inside.Cycles.{IsCycle, IsWalk, HasRoom, head_of, leads_to, link_at, slot_cost, tail_of, walk_cost}
use Rattle.th_circulation.specs.Inside.Listings.{AreResidual, arc_of, slot_at, slots_at}
use Rattle.th_circulation.proofs.ShortestLemmas.{residual_at, walk_telescopes}

-- the arc of a number is that of its slot, which is of a link
arc_is : (links : List Link) (diffs : List ℤ) (heights : ℕ → ℤ) (arcs : List Arc) (slots : List Slot) (number : ℕ) → arcs ≡ map (arc_of links diffs heights) slots → number < length slots → arc_at arcs number ≡ arc_of links diffs heights (slot_at slots number)
arc_is links diffs heights arcs slots number is within =
    ap (λ (found : List Arc). arc_at found number) is ∙ get_or-map (arc_of links diffs heights) slots number (record { place = 0; is_forward = false }) (record { tail = 0; head = 0; cost = pos 0 }) within

numbers_within : (links : List Link) (diffs : List ℤ) (heights : ℕ → ℤ) (arcs : List Arc) (slots : List Slot) (number : ℕ) → arcs ≡ map (arc_of links diffs heights) slots → number < length arcs → number < length slots
numbers_within links diffs heights arcs slots number is within =
    let long = ap length is in
    omega (arith, length-map slots (arc_of links diffs heights))

place_within : (links : List Link) (slots : List Slot) (number : ℕ) → All (λ slot. slot.place < length links) slots → number < length slots → (slot_at slots number).place < length links
place_within links slots number each within = each number (record { place = 0; is_forward = false }) within

walk_is : (links : List Link) (diffs : List ℤ) (heights : ℕ → ℤ) (arcs : List Arc) (slots : List Slot) (cycle : List ℕ) (from to : ℕ) → arcs ≡ map (arc_of links diffs heights) slots → All (λ slot. slot.place < length links) slots → IsArcWalk arcs from cycle to → IsWalk links from (slots_at slots cycle) to
walk_is links diffs heights arcs slots [] from to is each walk = walk
walk_is links diffs heights arcs slots (number ∷ cycle) from to is each walk =
    let within = numbers_within links diffs heights arcs slots number is walk.0 in
    let same = arc_is links diffs heights arcs slots number is within in
    let slot = slot_at slots number in
    let link = link_at links slot in
    let place = place_within links slots number each within in
    let there : slice_get links slot.place ≡ Some link = slice_get-get_or links slot.place (record { tail = 0; head = 0; diff = pos 0 }) place in
    let starts : tail_of slot link ≡ from = sym (walk.1 ∙ ap (λ (arc : Arc). arc.tail) same) in
    let rest = walk_is links diffs heights arcs slots cycle (head_of slot link) to is each (subst (λ (v : ℕ). IsArcWalk arcs v cycle to) (ap (λ (arc : Arc). arc.head) same) walk.2) in
    subst (λ (found : Option Link). IsSomeAnd found (λ l. (tail_of slot l ≡ from) × IsWalk links (head_of slot l) (slots_at slots cycle) to)) (sym there) (starts, rest)

entered_is : (links : List Link) (diffs : List ℤ) (heights : ℕ → ℤ) (arcs : List Arc) (slots : List Slot) (cycle : List ℕ) (from to : ℕ) → arcs ≡ map (arc_of links diffs heights) slots → IsArcWalk arcs from cycle to → entered_by arcs cycle ≡ map (leads_to links) (slots_at slots cycle)
entered_is links diffs heights arcs slots [] from to is walk = refl
entered_is links diffs heights arcs slots (number ∷ cycle) from to is walk =
    let same = ap (λ (arc : Arc). arc.head) (arc_is links diffs heights arcs slots number is (numbers_within links diffs heights arcs slots number is walk.0)) in
    let rest = entered_is links diffs heights arcs slots cycle (arc_at arcs number).head to is walk.2 in
    ap (λ (v : ℕ). v ∷ entered_by arcs cycle) same ∙ ap (λ (vs : List ℕ). leads_to links (slot_at slots number) ∷ vs) rest

-- an arc costs what its slot costs by the residuals
cost_is : (links : List Link) (diffs : List ℤ) (heights : ℕ → ℤ) (slot : Slot) → length diffs ≡ length links → slot.place < length links → (arc_of links diffs heights slot).cost ≡ slot_cost (residuals links diffs heights) slot
cost_is links diffs heights slot sized within =
    ap (λ z. if slot.is_forward then (pos 0 -ℤ z) else z) (sym (residual_at links diffs heights slot.place (record { tail = 0; head = 0; diff = pos 0 }) sized within))

costs_are : (links : List Link) (diffs : List ℤ) (heights : ℕ → ℤ) (arcs : List Arc) (slots : List Slot) (cycle : List ℕ) (from to : ℕ) → length diffs ≡ length links → arcs ≡ map (arc_of links diffs heights) slots → All (λ slot. slot.place < length links) slots → IsArcWalk arcs from cycle to → cost_of arcs cycle ≡ walk_cost (residuals links diffs heights) (slots_at slots cycle)
costs_are links diffs heights arcs slots [] from to sized is each walk = refl
costs_are links diffs heights arcs slots (number ∷ cycle) from to sized is each walk =
    let within = numbers_within links diffs heights arcs slots number is walk.0 in
    let same = ap (λ (arc : Arc). arc.cost) (arc_is links diffs heights arcs slots number is within) in
    let one = cost_is links diffs heights (slot_at slots number) sized (place_within links slots number each within) in
    let rest = costs_are links diffs heights arcs slots cycle (arc_at arcs number).head to sized is each walk.2 in
    let sum = total_by-cons (slot_cost (residuals links diffs heights)) (slot_at slots number) (slots_at slots cycle) in
    omega (arith, ints)

pub cycle_saves : (links : List Link) (weights : List ℕ) (diffs : List ℤ) (heights : ℕ → ℤ) (flows : List ℤ) (arcs : List Arc) (slots : List Slot) (cycle : List ℕ) → length diffs ≡ length links → AreResidual links weights diffs heights flows arcs slots → IsNegativeCycle arcs cycle → walk_cost diffs (slots_at slots cycle) <ℤ pos 0
cycle_saves links weights diffs heights flows arcs slots cycle sized residual negative =
    let vertex = negative.closed.0 in
    let walk = negative.closed.1 in
    let same = costs_are links diffs heights arcs slots cycle vertex vertex sized residual.is residual.within walk in
    let flat = walk_telescopes links diffs heights (slots_at slots cycle) vertex vertex sized (walk_is links diffs heights arcs slots cycle vertex vertex residual.is residual.within walk) in
    let below = negative.negative in
    omega (arith, ints)

pub cycle_enters_once : (links : List Link) (weights : List ℕ) (diffs : List ℤ) (heights : ℕ → ℤ) (flows : List ℤ) (arcs : List Arc) (slots : List Slot) (cycle : List ℕ) → AreResidual links weights diffs heights flows arcs slots → IsNegativeCycle arcs cycle → IsDistinct eqb (map (leads_to links) (slots_at slots cycle))
cycle_enters_once links weights diffs heights flows arcs slots cycle residual negative =
    subst (IsDistinct eqb) (entered_is links diffs heights arcs slots cycle negative.closed.0 negative.closed.0 residual.is negative.closed.1) negative.once

pub cycle_of_slots : (links : List Link) (weights : List ℕ) (diffs : List ℤ) (heights : ℕ → ℤ) (flows : List ℤ) (arcs : List Arc) (slots : List Slot) (cycle : List ℕ) (amount : ℕ) → AreResidual links weights diffs heights flows arcs slots → (negative : IsNegativeCycle arcs cycle) → All (HasRoom weights amount flows) (slots_at slots cycle) → IsCycle links weights flows amount negative.closed.0 (slots_at slots cycle)
cycle_of_slots links weights diffs heights flows arcs slots cycle amount residual negative room = record {
  closed = walk_is links diffs heights arcs slots cycle negative.closed.0 negative.closed.0 residual.is residual.within negative.closed.1;
  once = cycle_enters_once links weights diffs heights flows arcs slots cycle residual negative;
  room = room;
}

-- the numbers of a cycle are those of slots
numbers_of_walk : (arcs : List Arc) (cycle : List ℕ) (from to n : ℕ) → length arcs ≡ n → IsArcWalk arcs from cycle to → All (λ number. number < n) cycle
numbers_of_walk arcs [] from to n long walk = All-nil (λ number. number < n)
numbers_of_walk arcs (number ∷ cycle) from to n long walk = All-cons (λ number. number < n) number cycle (let within = walk.0 in omega arith) (numbers_of_walk arcs cycle (arc_at arcs number).head to n long walk.2)

pub numbers_of_cycle : (links : List Link) (weights : List ℕ) (diffs : List ℤ) (heights : ℕ → ℤ) (flows : List ℤ) (arcs : List Arc) (slots : List Slot) (cycle : List ℕ) → AreResidual links weights diffs heights flows arcs slots → IsNegativeCycle arcs cycle → All (λ number. number < length slots) cycle
numbers_of_cycle links weights diffs heights flows arcs slots cycle residual negative =
    numbers_of_walk arcs cycle negative.closed.0 negative.closed.0 (length slots) (ap length residual.is ∙ length-map slots (arc_of links diffs heights)) negative.closed.1
