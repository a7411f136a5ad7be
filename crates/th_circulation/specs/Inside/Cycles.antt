use Rattle.std.specs.Prelude.{◌≡◌, ℕ, ◌≤◌, ℤ, pos, ◌+ℤ◌, ◌-ℤ◌, ◌≤ℤ◌, ◌<ℤ◌, zip, List, [], ◌∷◌, All, fold, map, eqb, if◌then◌else◌, slice_get, slice_index_or, slice_set, unsigned_abs}
use Rattle.std.specs.Option.{IsSomeAnd}
use Rattle.std.specs.List.{AllZip, IsDistinct}
use Rattle.th_network.specs.Circulation.{total_by}
use Rattle.th_network.specs.declared.links.Link.{Link}
use Rattle.th_circulation.specs.declared.slots.Slot.{Slot}

-- the tail and the head of a slot on its link
abbrev pub tail_of : Slot → Link → ℕ
tail_of slot link = if slot.is_forward then link.tail else link.head

abbrev pub head_of : Slot → Link → ℕ
head_of slot link = if slot.is_forward then link.head else link.tail

-- the link of a slot; a link from vertex 0 to itself if there is none
abbrev pub link_at : List Link → Slot → Link
link_at links slot = slice_index_or links slot.place (record { tail = 0; head = 0; diff = pos 0 })

-- the slots lead from one vertex to another, each beginning where the one before it ended
abbrev pub IsWalk : List Link → ℕ → List Slot → ℕ → Type 0
IsWalk links from [] to = from ≡ to
IsWalk links from (slot ∷ slots) to = IsSomeAnd (slice_get links slot.place) (λ link. (tail_of slot link ≡ from) × IsWalk links (head_of slot link) slots to)

-- what an amount sent along a slot adds to the flow at the slot's place
abbrev pub change : ℕ → Slot → ℤ
change amount slot = if slot.is_forward then pos amount else (pos 0 -ℤ pos amount)

-- the flow at the place of a slot, after an amount was sent along the slot
abbrev pub flow_after : ℕ → List ℤ → Slot → ℤ
flow_after amount flows slot = slice_index_or flows slot.place (pos 0) +ℤ change amount slot

-- the flows after an amount was sent along a slot
abbrev pub send : ℕ → List ℤ → Slot → List ℤ
send amount flows slot = slice_set flows slot.place (flow_after amount flows slot)

-- the flows after an amount was sent along each slot
abbrev pub sent : ℕ → List ℤ → List Slot → List ℤ
sent amount flows slots = fold (send amount) flows slots

-- a slot has room for an amount: with it, the flow is at most the link's weight in size
abbrev pub HasRoom : List ℕ → ℕ → List ℤ → Slot → Type 0
HasRoom weights amount flows slot = unsigned_abs (flow_after amount flows slot) ≤ slice_index_or weights slot.place 0

-- each slot has room for an amount, after it was sent along the slots before
abbrev pub HasRooms : List ℕ → ℕ → List ℤ → List Slot → Type 0
HasRooms weights amount flows [] = Unit {0}
HasRooms weights amount flows (slot ∷ slots) = HasRoom weights amount flows slot × HasRooms weights amount (send amount flows slot) slots

-- the vertex that a slot leads to
abbrev pub leads_to : List Link → Slot → ℕ
leads_to links slot = head_of slot (link_at links slot)

-- the cost of a slot: the difference of its link, negated if the slot goes along the link
abbrev pub slot_cost : List ℤ → Slot → ℤ
slot_cost diffs slot = if slot.is_forward then (pos 0 -ℤ slice_index_or diffs slot.place (pos 0)) else slice_index_or diffs slot.place (pos 0)

abbrev pub walk_cost : List ℤ → List Slot → ℤ
walk_cost diffs slots = total_by (slot_cost diffs) slots

-- a walk from a vertex back to itself that enters each vertex at most once, with room for an amount along each slot
pub record IsCycle (links : List Link) (weights : List ℕ) (flows : List ℤ) (amount : ℕ) (vertex : ℕ) (slots : List Slot) : Type 0 where
  pub closed : IsWalk links vertex slots vertex
  pub once : IsDistinct eqb (map (leads_to links) slots)
  pub room : All (HasRoom weights amount flows) slots

-- no slot with room costs less than zero: the residual is not above zero where the flow can grow, and not below zero where it can shrink
abbrev pub SavesNothing : List ℕ → List ℤ → List ℤ → Type 0
SavesNothing weights flows rests = AllZip (λ pair rest. (pair.1 <ℤ pos pair.0 → rest ≤ℤ pos 0) × ((pos 0 -ℤ pos pair.0) <ℤ pair.1 → pos 0 ≤ℤ rest)) (zip weights flows) rests
