-- What stands at a slot of a graph is within its limits.
use Rattle.std.proofs.Common.{◌≡◌, ℕ, Bool, true, false, ◌≤◌, ◌<◌, ℤ, pos, ◌+ℤ◌, ◌-ℤ◌, ◌≤ℤ◌, ◌↔◌, List, if◌then◌else◌, length, unsigned_abs, get_or, ◌+◌, arith, sym, subst}
use Rattle.std.proofs.lemmas.Int.{ints}
use borrow.Author.Count.{below_more}
use Rattle.std.proofs.lemmas.List.{get_or-map, length-map}
use Rattle.std.specs.List.{All}
use Rattle.std.proofs.lemmas.Slice.Zip.{AllZip-long}
use Rattle.std.specs.Prelude.{slice_index_or}
use Rattle.th_network.specs.declared.links.Link.{Link}
use Rattle.th_search.specs.Potentials.{value_at}
use Rattle.th_circulation.specs.Inside.Bounds.{height_bound}
use Rattle.th_circulation.specs.declared.slots.Slot.{Slot}
use Rattle.th_circulation.specs.Inside.Flows.{AreBounded}
use Rattle.th_circulation.specs.Inside.Cycles.{HasRoom, link_at}
use Rattle.th_circulation.specs.Inside.Listings.{slot_at, slots_at}
use Rattle.th_search.specs.Distances.{AreWithin}
use Rattle.th_circulation.specs.Inside.Graphs.{IsLinkGraph}
use Rattle.th_circulation.proofs.CycleLemmas.{bounded_at}
use Rattle.th_network.specs.Links.{largest_link_difference}
use Rattle.th_tables.specs.Limits.{max_weight}

-- the ends of a slot's link are vertices
pub ends_at : (vertices : ℕ) (links : List Link) (weights : List ℕ) (slot : Slot) → IsLinkGraph vertices links weights → slot.place < length links → ((link_at links slot).tail < vertices) × ((link_at links slot).head < vertices)
ends_at vertices links weights slot graph within = graph.ends slot.place (record { tail = 0; head = 0; diff = pos 0 }) within

pub record IsNear (high low diff : ℤ) : Type 0 where
  pub high_near : unsigned_abs high ≤ height_bound
  pub low_near : unsigned_abs low ≤ height_bound
  pub diff_near : unsigned_abs diff ≤ largest_link_difference

pub near_at : (vertices : ℕ) (links : List Link) (weights : List ℕ) (heights diffs : List ℤ) (slot : Slot) → IsLinkGraph vertices links weights → AreWithin vertices height_bound heights → AreWithin (length links) largest_link_difference diffs → slot.place < length links → IsNear (value_at heights (link_at links slot).head) (value_at heights (link_at links slot).tail) (slice_index_or diffs slot.place (pos 0))
near_at vertices links weights heights diffs slot graph near_heights near_diffs within =
    let ends = ends_at vertices links weights slot graph within in
    let each = near_heights.each in
    let each_diff = near_diffs.each in
    record {
      high_near = near_heights.small (link_at links slot).head (pos 0) (omega arith);
      low_near = near_heights.small (link_at links slot).tail (pos 0) (omega arith);
      diff_near = near_diffs.small slot.place (pos 0) (omega arith);
    }

pub record IsLight (weight : ℕ) (flow : ℤ) : Type 0 where
  pub bounded : unsigned_abs flow ≤ weight
  pub light : weight ≤ max_weight

pub flows_long : (weights : List ℕ) (flows : List ℤ) → AreBounded weights flows → length flows ≡ length weights
flows_long weights flows bounded = AllZip-long (λ weight flow. unsigned_abs flow ≤ weight) weights flows bounded

pub light_at : (vertices : ℕ) (links : List Link) (weights : List ℕ) (flows : List ℤ) (slot : Slot) → IsLinkGraph vertices links weights → AreBounded weights flows → slot.place < length links → IsLight (slice_index_or weights slot.place 0) (slice_index_or flows slot.place (pos 0))
light_at vertices links weights flows slot graph bounded within =
    let sized = graph.sized in
    record { bounded = bounded_at weights flows slot.place bounded; light = graph.light slot.place 0 (omega arith) }

-- what can flow along a slot
pub room_is : (forward : Bool) (w : ℕ) (f r : ℤ) (amount : ℕ) → unsigned_abs f ≤ w → r ≡ (if forward then (pos w -ℤ f) else (pos w +ℤ f)) → (unsigned_abs (f +ℤ (if forward then pos amount else (pos 0 -ℤ pos amount))) ≤ w) ↔ (pos amount ≤ℤ r)
room_is true w f r amount bounded e = (λ h. omega (arith, ints), λ h. omega (arith, ints))
room_is false w f r amount bounded e = (λ h. omega (arith, ints), λ h. omega (arith, ints))

-- there is room for less where there is room for more
room_for_less : (forward : Bool) (w a b : ℕ) (f : ℤ) → unsigned_abs f ≤ w → a ≤ b → unsigned_abs (f +ℤ (if forward then pos b else (pos 0 -ℤ pos b))) ≤ w → unsigned_abs (f +ℤ (if forward then pos a else (pos 0 -ℤ pos a))) ≤ w
room_for_less true w a b f bounded less h = omega (arith, ints)
room_for_less false w a b f bounded less h = omega (arith, ints)

pub least_more : (weights : List ℕ) (flows : List ℤ) (slots : List Slot) (cycle : List ℕ) (i least new : ℕ) → AreBounded weights flows → ((k : ℕ) → k < i → HasRoom weights least flows (slot_at slots (get_or cycle k 0))) → HasRoom weights new flows (slot_at slots (get_or cycle i 0)) → new ≤ least → (k : ℕ) → k < i + 1 → HasRoom weights new flows (slot_at slots (get_or cycle k 0))
least_more weights flows slots cycle i least new bounded before here less = below_more (λ k. HasRoom weights new flows (slot_at slots (get_or cycle k 0))) i (λ k h. let slot = slot_at slots (get_or cycle k 0) in room_for_less slot.is_forward (slice_index_or weights slot.place 0) new least (slice_index_or flows slot.place (pos 0)) (bounded_at weights flows slot.place bounded) less (before k h)) here

pub rooms_of_cycle : (weights : List ℕ) (flows : List ℤ) (slots : List Slot) (cycle : List ℕ) (least : ℕ) → ((k : ℕ) → k < length cycle → HasRoom weights least flows (slot_at slots (get_or cycle k 0))) → All (HasRoom weights least flows) (slots_at slots cycle)
rooms_of_cycle weights flows slots cycle least each = λ k d within. subst (HasRoom weights least flows) (sym (get_or-map (slot_at slots) cycle k 0 d (omega (arith, length-map cycle (slot_at slots))))) (each k (omega (arith, length-map cycle (slot_at slots))))
