-- An amount sent along a walk: what it does to the excess at each vertex, to the bounds and to the gain.
use Rattle.std.proofs.Common.{◌≡◌, ℕ, zero, suc, Bool, true, false, ◌<◌, ◌≤◌, ℤ, pos, negsuc, ◌≤ℤ◌, ◌<ℤ◌, ◌+ℤ◌, ◌-ℤ◌, ◌*ℤ◌, List, [], ◌∷◌, Option, Some, None, eqb, map, zip, length, if◌then◌else◌, unsigned_abs, slice_get, refl, ap, sym, subst, ◌∙◌, arith, ◌⊎◌, inl, inr}
use Rattle.std.proofs.lemmas.Int.{ints}
use Rattle.std.proofs.lemmas.Bool.{eqb-false, eqb-true}
use Rattle.std.proofs.lemmas.List.{get_or-set_other, length-set}
use Rattle.std.proofs.lemmas.List.Elements.{recursion_from_All}
use Rattle.std.proofs.lemmas.Map.Keys.{IsDistinct-head, IsDistinct-tail}
use Rattle.std.proofs.lemmas.Slice.Zip.{AllZip-long}
use Rattle.std.proofs.lemmas.Option.{get_or_from_slice_get, slice_get_within}
use Rattle.std.proofs.Math.IntN.{*ℤ_comm, *ℤ-zero}
use Rattle.std.specs.Prelude.{slice_index_or, slice_set}
use Rattle.std.specs.List.{AllZip, AllByRecursion, IsDistinct}
use Rattle.std.specs.Option.{IsSomeAnd}
use Rattle.th_network.proofs.Products.{times-plus, times-minus}
use Rattle.th_network.proofs.Balance.{total_by-cons}
use Rattle.th_network.specs.Circulation.{total_by}
use Rattle.th_network.specs.declared.links.Link.{Link}
use Rattle.th_circulation.specs.Inside.Flows.{IsFlow, arriving, leaving, gain}
use Rattle.th_circulation.specs.declared.slots.Slot.{Slot}
use Rattle.th_circulation.specs.Inside.Cycles.{tail_of, head_of, IsWalk, change, flow_after, send, sent, HasRoom, HasRooms, slot_cost, walk_cost, IsCycle, leads_to}
use Rattle.th_circulation.proofs.PhaseLemmas.{gain-cons}

-- the flow of a pair that passes a test
abbrev picked : {X : Type 0} → (X → Bool) → (X × ℤ) → ℤ
picked test pair = if test pair.0 then pair.1 else pos 0

pick_plus : (b : Bool) (f c rest : ℤ) → (if b then (f +ℤ c) else pos 0) +ℤ rest ≡ (if b then f else pos 0) +ℤ rest +ℤ (if b then c else pos 0)
pick_plus true f c rest = omega (arith, ints)
pick_plus false f c rest = omega (arith, ints)

-- one flow changed, in the sum of those that pass a test
total_set : {X : Type 0} (test : X → Bool) (xs : List X) (flows : List ℤ) (i : ℕ) (c : ℤ) (d : X) → i < length xs → i < length flows → total_by (picked test) (zip xs (slice_set flows i (slice_index_or flows i (pos 0) +ℤ c))) ≡ total_by (picked test) (zip xs flows) +ℤ (if test (slice_index_or xs i d) then c else pos 0)
total_set test [] flows i c d h k = absurd (omega arith)
total_set test (x ∷ xs) [] i c d h k = absurd (omega arith)
total_set test (x ∷ xs) (flow ∷ flows) zero c d h k =
    let a = total_by-cons (picked test) (x, flow) (zip xs flows) in
    let b = total_by-cons (picked test) (x, flow +ℤ c) (zip xs flows) in
    let p = pick_plus (test x) flow c (total_by (picked test) (zip xs flows)) in
    omega (arith, ints)
total_set test (x ∷ xs) (flow ∷ flows) (suc i) c d h k =
    let rest = total_set test xs flows i c d (omega arith) (omega arith) in
    let a = total_by-cons (picked test) (x, flow) (zip xs flows) in
    let b = total_by-cons (picked test) (x, flow) (zip xs (slice_set flows i (slice_index_or flows i (pos 0) +ℤ c))) in
    omega (arith, ints)

gain_set : (flows diffs : List ℤ) (i : ℕ) (c : ℤ) → i < length flows → gain (slice_set flows i (slice_index_or flows i (pos 0) +ℤ c)) diffs ≡ gain flows diffs +ℤ c *ℤ slice_index_or diffs i (pos 0)
gain_set [] diffs i c h = absurd (omega arith)
gain_set (flow ∷ flows) [] zero c h = let none = *ℤ-zero c in omega (arith, ints)
gain_set (flow ∷ flows) [] (suc i) c h = let none = *ℤ-zero c in omega (arith, ints)
gain_set (flow ∷ flows) (diff ∷ diffs) zero c h =
    let a = gain-cons flow diff flows diffs in
    let b = gain-cons (flow +ℤ c) diff flows diffs in
    let p = *ℤ_comm (flow +ℤ c) diff in
    let q = times-plus diff flow c in
    let r = *ℤ_comm diff flow in
    let s = *ℤ_comm diff c in
    omega (arith, ints)
gain_set (flow ∷ flows) (diff ∷ diffs) (suc i) c h =
    let rest = gain_set flows diffs i c (omega arith) in
    let a = gain-cons flow diff flows diffs in
    let b = gain-cons flow diff (slice_set flows i (slice_index_or flows i (pos 0) +ℤ c)) diffs in
    omega (arith, ints)

pub set_bounded : (weights : List ℕ) (flows : List ℤ) (i : ℕ) (f : ℤ) → AllZip (λ weight flow. unsigned_abs flow ≤ weight) weights flows → unsigned_abs f ≤ slice_index_or weights i 0 → AllZip (λ weight flow. unsigned_abs flow ≤ weight) weights (slice_set flows i f)
set_bounded [] [] i f h k = h
set_bounded [] (flow ∷ flows) i f h k = absurd h
set_bounded (weight ∷ weights) [] i f h k = absurd h
set_bounded (weight ∷ weights) (flow ∷ flows) zero f h k = (k, h.1)
set_bounded (weight ∷ weights) (flow ∷ flows) (suc i) f h k = (h.0, set_bounded weights flows i f h.1 k)

-- how much more arrives at a vertex than leaves it
abbrev excess : List Link → List ℤ → ℕ → ℤ
excess links flows vertex = arriving links flows vertex -ℤ leaving links flows vertex

-- an amount at one vertex
abbrev at : ℕ → ℕ → ℕ → ℤ
at amount there vertex = if eqb there vertex then pos amount else pos 0

change_ends : (forward head_is tail_is : Bool) (amount : ℕ) → (if head_is then (if forward then pos amount else (pos 0 -ℤ pos amount)) else pos 0) -ℤ (if tail_is then (if forward then pos amount else (pos 0 -ℤ pos amount)) else pos 0) ≡ (if (if forward then head_is else tail_is) then pos amount else pos 0) -ℤ (if (if forward then tail_is else head_is) then pos amount else pos 0)
change_ends true true true amount = omega (arith, ints)
change_ends true true false amount = omega (arith, ints)
change_ends true false true amount = omega (arith, ints)
change_ends true false false amount = omega (arith, ints)
change_ends false true true amount = omega (arith, ints)
change_ends false true false amount = omega (arith, ints)
change_ends false false true amount = omega (arith, ints)
change_ends false false false amount = omega (arith, ints)

-- a choice under a test
eqb_if : (b : Bool) (x y v : ℕ) → eqb (if b then x else y) v ≡ (if b then eqb x v else eqb y v)
eqb_if true x y v = refl
eqb_if false x y v = refl

slot_excess : (links : List Link) (flows : List ℤ) (amount : ℕ) (slot : Slot) (link : Link) (vertex : ℕ) → length flows ≡ length links → slice_get links slot.place ≡ Some link → excess links (send amount flows slot) vertex ≡ excess links flows vertex +ℤ at amount (head_of slot link) vertex -ℤ at amount (tail_of slot link) vertex
slot_excess links flows amount slot link vertex sized e =
    let within = slice_get_within links slot.place link e in
    let same = get_or_from_slice_get links slot.place link link e in
    let a = total_set (λ l. eqb l.head vertex) links flows slot.place (change amount slot) link within (omega arith) in
    let b = total_set (λ l. eqb l.tail vertex) links flows slot.place (change amount slot) link within (omega arith) in
    let a' = ap (λ (l : Link). if eqb l.head vertex then change amount slot else pos 0) same in
    let b' = ap (λ (l : Link). if eqb l.tail vertex then change amount slot else pos 0) same in
    let ends = change_ends slot.is_forward (eqb link.head vertex) (eqb link.tail vertex) amount in
    let f = ap (λ (t : Bool). if t then pos amount else pos 0) (eqb_if slot.is_forward link.head link.tail vertex) in
    let s = ap (λ (t : Bool). if t then pos amount else pos 0) (eqb_if slot.is_forward link.tail link.head vertex) in
    omega (arith, ints)

-- the excess moves from the walk's first vertex to its last
pub walk_excess : (links : List Link) (flows : List ℤ) (amount : ℕ) (slots : List Slot) (from to vertex : ℕ) → length flows ≡ length links → IsWalk links from slots to → excess links (sent amount flows slots) vertex ≡ excess links flows vertex +ℤ at amount to vertex -ℤ at amount from vertex
walk_excess links flows amount [] from to vertex sized walk =
    let same = ap (λ v. at amount v vertex) walk in
    omega (arith, ints)
walk_excess links flows amount (slot ∷ slots) from to vertex sized walk = by (walk_excess links (send amount flows slot) amount slots) (slice_get links slot.place) refl walk
  where
    by : ((middle to vertex : ℕ) → length (send amount flows slot) ≡ length links → IsWalk links middle slots to → excess links (sent amount (send amount flows slot) slots) vertex ≡ excess links (send amount flows slot) vertex +ℤ at amount to vertex -ℤ at amount middle vertex) → (found : Option Link) → slice_get links slot.place ≡ found → IsSomeAnd found (λ link. (tail_of slot link ≡ from) × IsWalk links (head_of slot link) slots to) → excess links (sent amount (send amount flows slot) slots) vertex ≡ excess links flows vertex +ℤ at amount to vertex -ℤ at amount from vertex
    by others None e h = absurd h
    by others (Some link) e h =
        let long = length-set flows slot.place (flow_after amount flows slot) in
        let rest = others (head_of slot link) to vertex (omega arith) h.1 in
        let one = slot_excess links flows amount slot link vertex sized e in
        let same = ap (λ v. at amount v vertex) h.0 in
        omega (arith, ints)

pub sent_bounded : (weights : List ℕ) (flows : List ℤ) (amount : ℕ) (slots : List Slot) → AllZip (λ weight flow. unsigned_abs flow ≤ weight) weights flows → HasRooms weights amount flows slots → AllZip (λ weight flow. unsigned_abs flow ≤ weight) weights (sent amount flows slots)
sent_bounded weights flows amount [] h rooms = h
sent_bounded weights flows amount (slot ∷ slots) h rooms = sent_bounded weights (send amount flows slot) amount slots (set_bounded weights flows slot.place (flow_after amount flows slot) h rooms.0) rooms.1

-- what is set at a place stands there, or the place is beyond the end and nothing is set
set_or_beyond : (flows : List ℤ) (i : ℕ) (f : ℤ) → (slice_index_or (slice_set flows i f) i (pos 0) ≡ f) ⊎ (slice_set flows i f ≡ flows)
set_or_beyond [] i f = inr refl
set_or_beyond (flow ∷ flows) zero f = inl refl
set_or_beyond (flow ∷ flows) (suc i) f = elim (set_or_beyond flows i f) [ inl e ↦ inl e | inr e ↦ inr (ap (λ rest. flow ∷ rest) e) ]

pub bounded_at : (weights : List ℕ) (flows : List ℤ) (i : ℕ) → AllZip (λ weight flow. unsigned_abs flow ≤ weight) weights flows → unsigned_abs (slice_index_or flows i (pos 0)) ≤ slice_index_or weights i 0
bounded_at [] [] i h = omega arith
bounded_at [] (flow ∷ flows) i h = absurd h
bounded_at (weight ∷ weights) [] i h = absurd h
bounded_at (weight ∷ weights) (flow ∷ flows) zero h = h.0
bounded_at (weight ∷ weights) (flow ∷ flows) (suc i) h = bounded_at weights flows i h.1

-- an amount there and back
there_and_back : (forward next : Bool) (amount w : ℕ) (f : ℤ) → (forward ≡ next → ⊥) → unsigned_abs f ≤ w → unsigned_abs ((f +ℤ (if forward then pos amount else (pos 0 -ℤ pos amount))) +ℤ (if next then pos amount else (pos 0 -ℤ pos amount))) ≤ w
there_and_back true true amount w f other h = absurd (other refl)
there_and_back true false amount w f other h = omega (arith, ints)
there_and_back false true amount w f other h = omega (arith, ints)
there_and_back false false amount w f other h = absurd (other refl)

-- of two slots at one place that lead to different vertices, one leads back
opposite : (links : List Link) (slot next : Slot) → eqb slot.place next.place ≡ true → eqb (leads_to links slot) (leads_to links next) ≡ false → slot.is_forward ≡ next.is_forward → ⊥
opposite links slot next same apart forward =
    eqb-false (leads_to links slot) (leads_to links next) apart (ap (λ (i : ℕ). leads_to links (record { place = i; is_forward = slot.is_forward })) (eqb-true slot.place next.place same) ∙ ap (λ (b : Bool). leads_to links (record { place = next.place; is_forward = b })) forward)

-- a slot that leads to another vertex leaves the room as it is, or makes more of it
room_after : (links : List Link) (weights : List ℕ) (amount : ℕ) (flows : List ℤ) (slot next : Slot) → AllZip (λ weight flow. unsigned_abs flow ≤ weight) weights flows → eqb (leads_to links slot) (leads_to links next) ≡ false → HasRoom weights amount flows next → HasRoom weights amount (send amount flows slot) next
room_after links weights amount flows slot next bounded apart room = by (eqb slot.place next.place) refl
  where
    by : (b : Bool) → eqb slot.place next.place ≡ b → HasRoom weights amount (send amount flows slot) next
    by false e =
        let same = get_or-set_other flows slot.place next.place (flow_after amount flows slot) (pos 0) (λ f. eqb-false slot.place next.place e (sym f)) in
        subst (λ f. unsigned_abs (f +ℤ change amount next) ≤ slice_index_or weights next.place 0) (sym same) room
    by true e =
        let place = eqb-true slot.place next.place e in
        let back : unsigned_abs (flow_after amount flows slot +ℤ change amount next) ≤ slice_index_or weights slot.place 0 = there_and_back slot.is_forward next.is_forward amount (slice_index_or weights slot.place 0) (slice_index_or flows slot.place (pos 0)) (opposite links slot next e apart) (bounded_at weights flows slot.place bounded) in
        elim (set_or_beyond flows slot.place (flow_after amount flows slot)) [
          | inl set ↦ subst (λ (i : ℕ). unsigned_abs (slice_index_or (send amount flows slot) i (pos 0) +ℤ change amount next) ≤ slice_index_or weights i 0) place (subst (λ f. unsigned_abs (f +ℤ change amount next) ≤ slice_index_or weights slot.place 0) (sym set) back)
          | inr none ↦ subst (λ fs. HasRoom weights amount fs next) (sym none) room
        ]

rooms_kept : (links : List Link) (weights : List ℕ) (amount : ℕ) (flows : List ℤ) (slot : Slot) (slots : List Slot) → AllZip (λ weight flow. unsigned_abs flow ≤ weight) weights flows → AllByRecursion (λ other. eqb (leads_to links slot) other ≡ false) (map (leads_to links) slots) → AllByRecursion (HasRoom weights amount flows) slots → AllByRecursion (HasRoom weights amount (send amount flows slot)) slots
rooms_kept links weights amount flows slot [] bounded apart rooms = tt
rooms_kept links weights amount flows slot (next ∷ slots) bounded apart rooms =
    (room_after links weights amount flows slot next bounded apart.0 rooms.0, rooms_kept links weights amount flows slot slots bounded apart.1 rooms.1)

pub rooms_from_once : (links : List Link) (weights : List ℕ) (amount : ℕ) (flows : List ℤ) (slots : List Slot) → AllZip (λ weight flow. unsigned_abs flow ≤ weight) weights flows → IsDistinct eqb (map (leads_to links) slots) → AllByRecursion (HasRoom weights amount flows) slots → HasRooms weights amount flows slots
rooms_from_once links weights amount flows [] bounded once rooms = tt
rooms_from_once links weights amount flows (slot ∷ slots) bounded once rooms =
    let head = IsDistinct-head eqb (leads_to links slot) (map (leads_to links) slots) once in
    let tail = IsDistinct-tail eqb (leads_to links slot) (map (leads_to links) slots) once in
    (rooms.0, rooms_from_once links weights amount (send amount flows slot) slots (set_bounded weights flows slot.place (flow_after amount flows slot) bounded rooms.0) tail (rooms_kept links weights amount flows slot slots bounded head rooms.1))

slot_gain : (b : Bool) (amount : ℕ) (d : ℤ) → (if b then pos amount else (pos 0 -ℤ pos amount)) *ℤ d ≡ pos 0 -ℤ pos amount *ℤ (if b then (pos 0 -ℤ d) else d)
slot_gain true amount d =
    let a = times-minus (pos amount) (pos 0) d in
    let b = *ℤ-zero (pos amount) in
    omega (arith, ints)
slot_gain false amount d =
    let a = times-minus d (pos 0) (pos amount) in
    let b = *ℤ-zero d in
    let c = *ℤ_comm (pos 0 -ℤ pos amount) d in
    let e = *ℤ_comm (pos amount) d in
    omega (arith, ints)

pub sent_gain : (links : List Link) (diffs flows : List ℤ) (amount : ℕ) (slots : List Slot) (from to : ℕ) → length flows ≡ length links → IsWalk links from slots to → gain (sent amount flows slots) diffs ≡ gain flows diffs -ℤ pos amount *ℤ walk_cost diffs slots
sent_gain links diffs flows amount [] from to sized walk = let none = *ℤ-zero (pos amount) in omega (arith, ints)
sent_gain links diffs flows amount (slot ∷ slots) from to sized walk = by (sent_gain links diffs (send amount flows slot) amount slots) (slice_get links slot.place) refl walk
  where
    by : ((middle to : ℕ) → length (send amount flows slot) ≡ length links → IsWalk links middle slots to → gain (sent amount (send amount flows slot) slots) diffs ≡ gain (send amount flows slot) diffs -ℤ pos amount *ℤ walk_cost diffs slots) → (found : Option Link) → slice_get links slot.place ≡ found → IsSomeAnd found (λ link. (tail_of slot link ≡ from) × IsWalk links (head_of slot link) slots to) → gain (sent amount (send amount flows slot) slots) diffs ≡ gain flows diffs -ℤ pos amount *ℤ walk_cost diffs (slot ∷ slots)
    by others None e h = absurd h
    by others (Some link) e h =
        let within = slice_get_within links slot.place link e in
        let long = length-set flows slot.place (flow_after amount flows slot) in
        let rest = others (head_of slot link) to (omega arith) h.1 in
        let one = gain_set flows diffs slot.place (change amount slot) (omega arith) in
        let part = slot_gain slot.is_forward amount (slice_index_or diffs slot.place (pos 0)) in
        let more = ap (λ z. pos amount *ℤ z) (total_by-cons (slot_cost diffs) slot slots) ∙ times-plus (pos amount) (slot_cost diffs slot) (walk_cost diffs slots) in
        omega (arith, ints)

flow_long : (links : List Link) (weights : List ℕ) (flows : List ℤ) → IsFlow links weights flows → length flows ≡ length links
flow_long links weights flows flow =
    let long = AllZip-long (λ weight flow. unsigned_abs flow ≤ weight) weights flows flow.bounded in
    long ∙ flow.sized

pub cycle_keeps : (links : List Link) (weights : List ℕ) (flows : List ℤ) (amount vertex : ℕ) (slots : List Slot) → IsFlow links weights flows → IsCycle links weights flows amount vertex slots → IsFlow links weights (sent amount flows slots)
cycle_keeps links weights flows amount vertex slots flow cycle = record {
  sized = flow.sized;
  bounded = sent_bounded weights flows amount slots flow.bounded (rooms_from_once links weights amount flows slots flow.bounded cycle.once (recursion_from_All (HasRoom weights amount flows) slots cycle.room));
  balanced = λ v.
      let moved = walk_excess links flows amount slots vertex vertex v (flow_long links weights flows flow) cycle.closed in
      let before = flow.balanced v in
      omega (arith, ints);
}

pub cycle_gains : (links : List Link) (weights : List ℕ) (diffs flows : List ℤ) (amount vertex : ℕ) (slots : List Slot) → IsFlow links weights flows → IsCycle links weights flows amount vertex slots → gain (sent amount flows slots) diffs ≡ gain flows diffs -ℤ pos amount *ℤ walk_cost diffs slots
cycle_gains links weights diffs flows amount vertex slots flow cycle = sent_gain links diffs flows amount slots vertex vertex (flow_long links weights flows flow) cycle.closed

-- a cost below zero is at most minus one
less_cost : (amount : ℕ) (c : ℤ) → c <ℤ pos 0 → (pos amount *ℤ c) ≤ℤ (pos 0 -ℤ pos amount)
less_cost amount (pos n) h = absurd (omega (arith, ints))
less_cost amount (negsuc n) h =
    let e : negsuc n ≡ pos 0 -ℤ pos (suc n) = omega (arith, ints) in
    let g = ap (λ z. pos amount *ℤ z) e ∙ times-minus (pos amount) (pos 0) (pos (suc n)) in
    let k = *ℤ-zero (pos amount) in
    omega (arith, ints)

pub cycle_raises : (links : List Link) (weights : List ℕ) (diffs flows : List ℤ) (amount vertex : ℕ) (slots : List Slot) → IsFlow links weights flows → IsCycle links weights flows amount vertex slots → walk_cost diffs slots <ℤ pos 0 → (gain flows diffs +ℤ pos amount) ≤ℤ gain (sent amount flows slots) diffs
cycle_raises links weights diffs flows amount vertex slots flow cycle saves =
    let same = cycle_gains links weights diffs flows amount vertex slots flow cycle in
    let less = less_cost amount (walk_cost diffs slots) saves in
    omega (arith, ints)
