use Rattle.std.specs.Prelude.{◌≡◌, ℕ, ◌<◌, ◌≤◌, ℤ, pos, ◌-ℤ◌, ◌*◌, List, All, Contains, if◌then◌else◌, length, map, slice_index_or, false}
use Rattle.th_network.specs.declared.links.Link.{Link}
use Rattle.th_search.specs.declared.arcs.Arc.{Arc}
use Rattle.th_search.specs.Potentials.{value_at}
use Rattle.std.specs.Vec.{vec_capacity}
use Rattle.th_network.specs.Links.{largest_link_difference}
use Rattle.th_circulation.specs.Inside.Bounds.{height_bound}
use Rattle.th_circulation.specs.Inside.Flows.{AreBounded, residual}
use Rattle.th_search.specs.Distances.{AreWithin}
use Rattle.th_circulation.specs.Inside.Cycles.{HasRoom, head_of, link_at, tail_of}
use Rattle.th_circulation.specs.declared.graphs.LinkGraph.{LinkGraph}
use Rattle.th_circulation.specs.declared.listings.Listing.{Listing}
use Rattle.th_circulation.specs.declared.slots.Slot.{Slot}
use Rattle.th_circulation.specs.declared.states.State.{State}

-- the arc of a slot, with its reduced cost at these heights
abbrev pub arc_of : List Link → List ℤ → (ℕ → ℤ) → Slot → Arc
arc_of links diffs heights slot =
    let link = link_at links slot in
    let rest = residual heights link (slice_index_or diffs slot.place (pos 0)) in
    record { tail = tail_of slot link; head = head_of slot link; cost = if slot.is_forward then (pos 0 -ℤ rest) else rest }

-- the arcs are those of the slots, each of which has a link and room
pub record AreResidual (links : List Link) (weights : List ℕ) (diffs : List ℤ) (heights : ℕ → ℤ) (flows : List ℤ) (arcs : List Arc) (slots : List Slot) : Type 0 where
  pub is : arcs ≡ map (arc_of links diffs heights) slots
  pub within : All (λ slot. slot.place < length links) slots
  pub room : All (HasRoom weights 1 flows) slots

-- every slot of the links before a place that has room is among these
abbrev pub HasAllBefore : List ℕ → List ℤ → List Slot → ℕ → Type 0
HasAllBefore weights flows slots place = (slot : Slot) → slot.place < place → HasRoom weights 1 flows slot → Contains slots slot

-- the slot with this number, counted from 0
abbrev pub slot_at : List Slot → ℕ → Slot
slot_at slots number = slice_index_or slots number (record { place = 0; is_forward = false })

-- the slots with these numbers
abbrev pub slots_at : List Slot → List ℕ → List Slot
slots_at slots numbers = map (slot_at slots) numbers

-- flows within the weights, slots that each have a link and room, and numbers of some of them
pub record AreOpen (graph : LinkGraph) (slots : List Slot) (numbers : List ℕ) (flows : List ℤ) : Type 0 where
  pub bounded : AreBounded graph.weights.now flows
  pub within : All (λ slot. slot.place < length graph.links.now) slots
  pub room : All (HasRoom graph.weights.now 1 flows) slots
  pub numbered : All (λ number. number < length slots) numbers

-- a state of a graph from which residual arcs can be listed
pub record IsListable (graph : LinkGraph) (state : State) : Type 0 where
  pub near_differences : AreWithin (length graph.links.now) largest_link_difference state.differences.items
  pub near_heights : AreWithin graph.vertices height_bound state.heights.items
  pub bounded : AreBounded graph.weights.now state.flows.items

-- the listing has residual arcs of the graph, with their reduced costs at the heights of the state
abbrev pub Lists : LinkGraph → State → Listing → Type 0
Lists graph state listing = AreResidual graph.links.now graph.weights.now state.differences.items (value_at state.heights.items) state.flows.items listing.arcs.items listing.slots.items

-- the listing has capacity for all residual arcs of a graph
pub record Fits (graph : LinkGraph) (listing : Listing) : Type 0 where
  pub arcs : 2 * length graph.links.now ≤ vec_capacity listing.arcs
  pub slots : 2 * length graph.links.now ≤ vec_capacity listing.slots

-- the listing has no less capacity than before
pub record KeepsRoom (old new : Listing) : Type 0 where
  pub arcs : vec_capacity old.arcs ≤ vec_capacity new.arcs
  pub slots : vec_capacity old.slots ≤ vec_capacity new.slots
