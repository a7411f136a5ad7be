-- What flows take out of a set: at most what its cut weighs, and just that where its ways out are full. So their value is at most what the
-- set drains.
use Rattle.std.proofs.Common.{◌≡◌, ℕ, zero, suc, ◌+◌, ◌-◌, ◌<◌, ◌≤◌, ℤ, pos, ◌+ℤ◌, ◌-ℤ◌, ◌≤ℤ◌, Bool, true, false, List, [], ◌∷◌, length, eqb, if◌then◌else◌, unsigned_abs, refl, ap, sym, subst, ◌∙◌, arith, replicate}
use Rattle.std.specs.Prelude.{slice_set}
use Rattle.std.proofs.lemmas.Int.{ints}
use Rattle.std.proofs.lemmas.Bool.{eqb-false, eqb-true, false≢true}
use Rattle.std.proofs.lemmas.List.{get_or-set_other, get_or-set_same, length-set, length-replicate}
use Rattle.std.proofs.lemmas.List.Sums.{sum_by-cons}
use Rattle.th_cuts.specs.declared.edges.Edge.{Edge}
use Rattle.th_cuts.specs.declared.edges.Way.{Way}
use Rattle.th_cuts.specs.CutWeights.{crosses, cut_weight}
use Rattle.th_cuts.specs.Drains.{drain, room_at, room_in}
use Rattle.th_cuts.specs.Graphs.{AreAmong, edge_at, finish_of, start_of}
use Rattle.th_cuts.specs.Inside.Trees.{IsSent, at}
use Rattle.th_cuts.specs.Inside.Flows.{AreBounded, AreFullOut, CanCarry, IsClosed, IsFlow, IsFullOut, carried, carry, flow_at, moved, net, out_of, signed}
use Rattle.th_cuts.proofs.RoomLemmas.{room_in_least, room_in_more, room_in_none, room_in_set}

-- ---- no cut weighs less than what is taken out of it
out_most : (s t : Bool) (f : ℤ) (w : ℕ) → unsigned_abs f ≤ w → (if s then (if t then pos 0 else f) else (if t then (pos 0 -ℤ f) else pos 0)) ≤ℤ pos (if (if s then (if t then false else true) else t) then w else 0)
out_most true true f w h = omega (arith, ints)
out_most true false f w h = omega (arith, ints)
out_most false true f w h = omega (arith, ints)
out_most false false f w h = omega (arith, ints)

net_most : (inside : ℕ → Bool) (edges : List Edge) (flows : List ℤ) → ((number : ℕ) → unsigned_abs (flow_at flows number) ≤ (edge_at edges number).weight) → net inside edges flows ≤ℤ pos (cut_weight inside edges)
net_most inside [] flows h = omega (arith, ints)
net_most inside (edge ∷ edges) [] h = omega (arith, ints)
net_most inside (edge ∷ edges) (flow ∷ flows) h =
    let rest = net_most inside edges flows (λ number. h (suc number)) in
    let one = out_most (inside edge.tail) (inside edge.head) flow edge.weight (h 0) in
    let more = sum_by-cons (λ (e : Edge). if crosses inside e then e.weight else 0) edge edges in
    omega (arith, ints)

-- the value of a flow is at most what a set with the source drains
pub value_most : (edges : List Edge) (source value : ℕ) (rooms left : List ℕ) (flows : List ℤ) (inside : ℕ → Bool) → IsFlow edges source rooms left value flows → inside source ≡ true → value ≤ drain edges rooms inside
value_most edges source value rooms left flows inside flow in_it =
    let most = net_most inside edges flows flow.within.bounded in
    let is = flow.valued inside in_it in
    omega (arith, ints)

-- ---- a cut whose ways out are full weighs just that
out_full : (s t : Bool) (f : ℤ) (w : ℕ) → (s ≡ true → t ≡ false → f ≡ pos w) → (t ≡ true → s ≡ false → f ≡ pos 0 -ℤ pos w) → (if s then (if t then pos 0 else f) else (if t then (pos 0 -ℤ f) else pos 0)) ≡ pos (if (if s then (if t then false else true) else t) then w else 0)
out_full true true f w out back = refl
out_full true false f w out back = out refl refl
out_full false true f w out back = let full = back refl refl in omega (arith, ints)
out_full false false f w out back = refl

net_full : (inside : ℕ → Bool) (edges : List Edge) (flows : List ℤ) → length flows ≡ length edges → AreFullOut edges flows inside → net inside edges flows ≡ pos (cut_weight inside edges)
net_full inside [] flows sized full = refl
net_full inside (edge ∷ edges) [] sized full = absurd (omega arith)
net_full inside (edge ∷ edges) (flow ∷ flows) sized full =
    let rest = net_full inside edges flows (omega arith) (λ number h. full (suc number) (omega arith)) in
    let here = full 0 (omega arith) in
    let one = out_full (inside edge.tail) (inside edge.head) flow edge.weight here.0 here.1 in
    let more = sum_by-cons (λ (e : Edge). if crosses inside e then e.weight else 0) edge edges in
    omega (arith, ints)

-- so it is just what a closed set drains
pub value_full : (edges : List Edge) (source value : ℕ) (rooms left : List ℕ) (flows : List ℤ) (inside : ℕ → Bool) → IsFlow edges source rooms left value flows → IsClosed edges left flows inside → inside source ≡ true → drain edges rooms inside ≡ value
value_full edges source value rooms left flows inside flow closed in_it =
    let whole = net_full inside edges flows flow.within.sized closed.full in
    let used = room_in_none left inside closed.used in
    let is = flow.valued inside in_it in
    omega (arith, ints)

-- ---- a cut that weighs just what is taken out of it has its ways out full
full_of_out : (s t : Bool) (f : ℤ) (w : ℕ) → (if s then (if t then pos 0 else f) else (if t then (pos 0 -ℤ f) else pos 0)) ≡ pos (if (if s then (if t then false else true) else t) then w else 0) → (s ≡ true → t ≡ false → f ≡ pos w) × (t ≡ true → s ≡ false → f ≡ pos 0 -ℤ pos w)
full_of_out true true f w is = ((λ s t. absurd (false≢true (sym t))), (λ t s. absurd (false≢true (sym s))))
full_of_out true false f w is = ((λ s t. is), (λ t s. absurd (false≢true t)))
full_of_out false true f w is = ((λ s t. absurd (false≢true s)), (λ t s. omega (arith, ints)))
full_of_out false false f w is = ((λ s t. absurd (false≢true s)), (λ t s. absurd (false≢true t)))

pub full_of_net : (inside : ℕ → Bool) (edges : List Edge) (flows : List ℤ) → length flows ≡ length edges → ((number : ℕ) → unsigned_abs (flow_at flows number) ≤ (edge_at edges number).weight) → net inside edges flows ≡ pos (cut_weight inside edges) → AreFullOut edges flows inside
full_of_net inside [] flows sized bounded is number h = absurd (omega arith)
full_of_net inside (edge ∷ edges) [] sized bounded is number h = absurd (omega arith)
full_of_net inside (edge ∷ edges) (flow ∷ flows) sized bounded is zero h =
    let most = net_most inside edges flows (λ number. bounded (suc number)) in
    let one = out_most (inside edge.tail) (inside edge.head) flow edge.weight (bounded 0) in
    let more = sum_by-cons (λ (e : Edge). if crosses inside e then e.weight else 0) edge edges in
    full_of_out (inside edge.tail) (inside edge.head) flow edge.weight (omega (arith, ints))
full_of_net inside (edge ∷ edges) (flow ∷ flows) sized bounded is (suc number) h =
    let most = net_most inside edges flows (λ number. bounded (suc number)) in
    let one = out_most (inside edge.tail) (inside edge.head) flow edge.weight (bounded 0) in
    let more = sum_by-cons (λ (e : Edge). if crosses inside e then e.weight else 0) edge edges in
    full_of_net inside edges flows (omega arith) (λ number. bounded (suc number)) (omega (arith, ints)) number (omega arith)

-- a set that drains just the value of a flow is closed
pub closed_of_drain : (edges : List Edge) (source value : ℕ) (rooms left : List ℕ) (flows : List ℤ) (inside : ℕ → Bool) → IsFlow edges source rooms left value flows → inside source ≡ true → drain edges rooms inside ≡ value → IsClosed edges left flows inside
closed_of_drain edges source value rooms left flows inside flow in_it drains =
    let most = net_most inside edges flows flow.within.bounded in
    let is = flow.valued inside in_it in
    record {
      full = full_of_net inside edges flows flow.within.sized flow.within.bounded (omega (arith, ints));
      used = λ vertex on. let less = room_in_least left inside vertex on in omega (arith, ints);
    }

-- a way with room does not lead out of such a cut
pub not_out : (edges : List Edge) (flows : List ℤ) (inside : ℕ → Bool) (amount : ℕ) (way : Way) → AreFullOut edges flows inside → way.edge < length edges → 1 ≤ amount → CanCarry edges flows amount way → inside (start_of way (edge_at edges way.edge)) ≡ true → inside (finish_of way (edge_at edges way.edge)) ≡ true
not_out edges flows inside amount way full among some room start = by (inside (finish_of way (edge_at edges way.edge))) refl
  where
    is_full : (forward : Bool) → IsFullOut edges flows inside (record { edge = way.edge; is_forward = forward })
    is_full true = (full way.edge among).0
    is_full false = (full way.edge among).1

    no_room : (forward : Bool) (w : ℕ) (f : ℤ) → f ≡ signed w forward → unsigned_abs (f +ℤ signed amount forward) ≤ w → ⊥
    no_room true w f is room = omega (arith, ints)
    no_room false w f is room = omega (arith, ints)

    by : (b : Bool) → inside (finish_of way (edge_at edges way.edge)) ≡ b → inside (finish_of way (edge_at edges way.edge)) ≡ true
    by true e = e
    by false e = absurd (no_room way.is_forward (edge_at edges way.edge).weight (flow_at flows way.edge) (is_full way.is_forward start e) room)

-- ---- no flow at all takes nothing out
pub net_none : (inside : ℕ → Bool) (edges : List Edge) (flows : List ℤ) → ((number : ℕ) → flow_at flows number ≡ pos 0) → net inside edges flows ≡ pos 0
net_none inside [] flows none = refl
net_none inside (edge ∷ edges) [] none = refl
net_none inside (edge ∷ edges) (flow ∷ flows) none =
    let rest = net_none inside edges flows (λ number. none (suc number)) in
    let one = out_none (inside edge.tail) (inside edge.head) flow (none 0) in
    omega (arith, ints)
  where
    out_none : (s t : Bool) (f : ℤ) → f ≡ pos 0 → (if s then (if t then pos 0 else f) else (if t then (pos 0 -ℤ f) else pos 0)) ≡ pos 0
    out_none true true f h = refl
    out_none true false f h = h
    out_none false true f h = omega (arith, ints)
    out_none false false f h = refl

zero_at : (n number : ℕ) → flow_at (replicate n (pos 0)) number ≡ pos 0
zero_at zero number = refl
zero_at (suc n) zero = refl
zero_at (suc n) (suc number) = zero_at n number

pub flow_start : (edges : List Edge) (source : ℕ) (rooms left : List ℕ) (flows : List ℤ) → left ≡ rooms → flows ≡ replicate (length edges) (pos 0) → IsFlow edges source rooms left 0 flows
flow_start edges source rooms left flows all are =
    let none : (number : ℕ) → flow_at flows number ≡ pos 0 = λ number. ap (λ (fs : List ℤ). flow_at fs number) are ∙ zero_at (length edges) number in
    record {
      within = record {
        sized = ap (λ (fs : List ℤ). length fs) are ∙ length-replicate (length edges) (pos 0);
        bounded = λ number. let here = none number in omega (arith, ints);
      };
      each = ap (λ (l : List ℕ). length l) all;
      valued = λ inside in_it.
          let no_net = net_none inside edges flows none in
          let same = ap (λ (l : List ℕ). room_in l inside) all in
          omega (arith, ints);
    }

-- ---- an amount that a way carries is taken out at its start and brought in at its finish
out_plus : (s t : Bool) (f c : ℤ) → (if s then (if t then pos 0 else (f +ℤ c)) else (if t then (pos 0 -ℤ (f +ℤ c)) else pos 0)) ≡ (if s then (if t then pos 0 else f) else (if t then (pos 0 -ℤ f) else pos 0)) +ℤ (if s then (if t then pos 0 else c) else (if t then (pos 0 -ℤ c) else pos 0))
out_plus true true f c = refl
out_plus true false f c = refl
out_plus false true f c = omega (arith, ints)
out_plus false false f c = refl

net_set : (inside : ℕ → Bool) (edges : List Edge) (flows : List ℤ) (i : ℕ) (c : ℤ) → i < length edges → length flows ≡ length edges → net inside edges (slice_set flows i (flow_at flows i +ℤ c)) ≡ net inside edges flows +ℤ out_of inside (edge_at edges i) c
net_set inside [] flows i c h sized = absurd (omega arith)
net_set inside (edge ∷ edges) [] i c h sized = absurd (omega arith)
net_set inside (edge ∷ edges) (flow ∷ flows) zero c h sized =
    let one = out_plus (inside edge.tail) (inside edge.head) flow c in
    omega (arith, ints)
net_set inside (edge ∷ edges) (flow ∷ flows) (suc i) c h sized =
    let rest = net_set inside edges flows i c (omega arith) (omega arith) in
    omega (arith, ints)

out_signed : (forward : Bool) (inside : ℕ → Bool) (tail head amount : ℕ) → (if inside tail then (if inside head then pos 0 else signed amount forward) else (if inside head then (pos 0 -ℤ signed amount forward) else pos 0)) ≡ at amount (inside (if forward then tail else head)) -ℤ at amount (inside (if forward then head else tail))
out_signed true inside tail head amount = by (inside tail) (inside head)
  where
    by : (s t : Bool) → (if s then (if t then pos 0 else pos amount) else (if t then (pos 0 -ℤ pos amount) else pos 0)) ≡ at amount s -ℤ at amount t
    by true true = omega (arith, ints)
    by true false = omega (arith, ints)
    by false true = omega (arith, ints)
    by false false = omega (arith, ints)
out_signed false inside tail head amount = by (inside tail) (inside head)
  where
    by : (s t : Bool) → (if s then (if t then pos 0 else (pos 0 -ℤ pos amount)) else (if t then (pos 0 -ℤ (pos 0 -ℤ pos amount)) else pos 0)) ≡ at amount t -ℤ at amount s
    by true true = omega (arith, ints)
    by true false = omega (arith, ints)
    by false true = omega (arith, ints)
    by false false = omega (arith, ints)

pub net_carry : (inside : ℕ → Bool) (edges : List Edge) (flows : List ℤ) (amount : ℕ) (way : Way) → way.edge < length edges → length flows ≡ length edges → net inside edges (carry amount flows way) ≡ net inside edges flows +ℤ (at amount (inside (start_of way (edge_at edges way.edge))) -ℤ at amount (inside (finish_of way (edge_at edges way.edge))))
net_carry inside edges flows amount way h sized =
    let edge = edge_at edges way.edge in
    let set = net_set inside edges flows way.edge (signed amount way.is_forward) h sized in
    let out = out_signed way.is_forward inside edge.tail edge.head amount in
    omega (arith, ints)

-- ---- what a way can carry keeps the bounds
set_within : (most : ℕ → ℕ) (flows : List ℤ) (i : ℕ) (f : ℤ) → ((number : ℕ) → unsigned_abs (flow_at flows number) ≤ most number) → unsigned_abs f ≤ most i → (number : ℕ) → unsigned_abs (flow_at (slice_set flows i f) number) ≤ most number
set_within most [] i f h room number = h number
set_within most (flow ∷ flows) zero f h room zero = room
set_within most (flow ∷ flows) zero f h room (suc number) = h (suc number)
set_within most (flow ∷ flows) (suc i) f h room zero = h 0
set_within most (flow ∷ flows) (suc i) f h room (suc number) = set_within (λ k. most (suc k)) flows i f (λ k. h (suc k)) room number

pub carry_bounded : (edges : List Edge) (flows : List ℤ) (amount : ℕ) (way : Way) → AreBounded edges flows → CanCarry edges flows amount way → AreBounded edges (carry amount flows way)
carry_bounded edges flows amount way are room = record {
  sized = let long = length-set flows way.edge (carried amount flows way) in let same = are.sized in omega arith;
  bounded = set_within (λ number. (edge_at edges number).weight) flows way.edge (carried amount flows way) are.bounded room;
}

-- ---- room
pub finish_within : (vertices : ℕ) (edges : List Edge) (way : Way) → AreAmong vertices edges → way.edge < length edges → finish_of way (edge_at edges way.edge) < vertices
finish_within vertices edges way ends among = by way.is_forward
  where
    by : (b : Bool) → (if b then (edge_at edges way.edge).head else (edge_at edges way.edge).tail) < vertices
    by true = (ends way.edge (edge_at [] 0) among).1
    by false = (ends way.edge (edge_at [] 0) among).0

-- there is room for less where there is room for more
pub room_for_less : (forward : Bool) (w less more : ℕ) (f : ℤ) → unsigned_abs f ≤ w → less ≤ more → unsigned_abs (f +ℤ signed more forward) ≤ w → unsigned_abs (f +ℤ signed less forward) ≤ w
room_for_less true w less more f bounded h room = omega (arith, ints)
room_for_less false w less more f bounded h room = omega (arith, ints)

-- a way with no room is full
pub full_of_none : (forward : Bool) (w : ℕ) (f : ℤ) → unsigned_abs f ≤ w → (unsigned_abs (f +ℤ signed 1 forward) ≤ w → ⊥) → f ≡ signed w forward
full_of_none forward w f bounded none = by forward (omega arith)
  where
    by : (forward : Bool) → w < unsigned_abs (f +ℤ signed 1 forward) → f ≡ signed w forward
    by true more = omega (arith, ints)
    by false more = omega (arith, ints)

-- an amount one way leaves the room the other way
back_and_forth : (forward next : Bool) (w amount more : ℕ) (f : ℤ) → (forward ≡ next → ⊥) → unsigned_abs f ≤ w → unsigned_abs (f +ℤ signed amount forward) ≤ w → unsigned_abs (f +ℤ signed more next) ≤ w → unsigned_abs ((f +ℤ signed amount forward) +ℤ signed more next) ≤ w
back_and_forth true true w amount more f other h one two = absurd (other refl)
back_and_forth true false w amount more f other h one two = omega (arith, ints)
back_and_forth false true w amount more f other h one two = omega (arith, ints)
back_and_forth false false w amount more f other h one two = absurd (other refl)

-- what a way carries leaves the room of each other way
pub room_kept : (edges : List Edge) (flows : List ℤ) (amount more : ℕ) (way next : Way) → AreBounded edges flows → way.edge < length edges → CanCarry edges flows amount way → CanCarry edges flows more next → (next.edge ≡ way.edge → way.is_forward ≡ next.is_forward → ⊥) → CanCarry edges (carry amount flows way) more next
room_kept edges flows amount more way next are within one two apart = by (eqb next.edge way.edge) refl
  where
    by : (b : Bool) → eqb next.edge way.edge ≡ b → CanCarry edges (carry amount flows way) more next
    by false e = subst (λ f. unsigned_abs (f +ℤ signed more next.is_forward) ≤ (edge_at edges next.edge).weight) (sym (get_or-set_other flows way.edge next.edge (carried amount flows way) (pos 0) (eqb-false next.edge way.edge e))) two
    by true e =
        let same = eqb-true next.edge way.edge e in
        let long = are.sized in
        let back = back_and_forth way.is_forward next.is_forward (edge_at edges way.edge).weight amount more (flow_at flows way.edge) (apart same) (are.bounded way.edge) one (subst (λ i. unsigned_abs (flow_at flows i +ℤ signed more next.is_forward) ≤ (edge_at edges i).weight) same two) in
        let set = get_or-set_same flows way.edge (carried amount flows way) (pos 0) (omega arith) in
        subst (λ i. unsigned_abs (flow_at (carry amount flows way) i +ℤ signed more next.is_forward) ≤ (edge_at edges i).weight) (sym same) (subst (λ f. unsigned_abs (f +ℤ signed more next.is_forward) ≤ (edge_at edges way.edge).weight) (sym set) back)

-- ---- a side that agrees with another one is as full, and no cut weighs more than all edges
pub full_same : (edges : List Edge) (flows : List ℤ) (inside other : ℕ → Bool) → ((vertex : ℕ) → inside vertex ≡ other vertex) → AreFullOut edges flows inside → AreFullOut edges flows other
full_same edges flows inside other same full number h =
    ((λ s t. (full number h).0 (same (edge_at edges number).tail ∙ s) (same (edge_at edges number).head ∙ t)), (λ s t. (full number h).1 (same (edge_at edges number).head ∙ s) (same (edge_at edges number).tail ∙ t)))

-- ---- an amount sent takes as much of the room where it ends
at_is : (amount : ℕ) (b : Bool) → at amount b ≡ pos (if b then amount else 0)
at_is amount true = refl
at_is amount false = refl

pub flow_sent : (edges : List Edge) (source end amount value : ℕ) (rooms left : List ℕ) (first flows : List ℤ) → IsFlow edges source rooms left value first → IsSent edges first source end amount flows → amount ≤ room_at left end → end < length left → IsFlow edges source rooms (slice_set left end (room_at left end - amount)) (value + amount) flows
flow_sent edges source end amount value rooms left first flows flow sent enough within = record {
  within = sent.bounded;
  each = let long = length-set left end (room_at left end - amount) in let same = flow.each in omega arith;
  valued = λ inside in_it.
      let moved = sent.moved inside in
      let before = flow.valued inside in_it in
      let start = ap (at amount) in_it in
      let finish = at_is amount (inside end) in
      let set = room_in_set left inside end amount within enough in
      omega (arith, ints);
}

-- ---- an amount that a way carries, with as much room moved from its finish to its start
pub flow_pulled : (edges : List Edge) (source start finish amount value : ℕ) (way : Way) (rooms left : List ℕ) (flows : List ℤ) → IsFlow edges source rooms left value flows → way.edge < length edges → CanCarry edges flows amount way → start ≡ start_of way (edge_at edges way.edge) → finish ≡ finish_of way (edge_at edges way.edge) → start < length left → finish < length left → amount ≤ room_at left finish → IsFlow edges source rooms (moved left finish start amount) value (carry amount flows way)
flow_pulled edges source start finish amount value way rooms left flows flow among room from to within ends enough =
    let less = slice_set left finish (room_at left finish - amount) in
    let long = length-set left finish (room_at left finish - amount) in
    let longer = length-set less start (room_at less start + amount) in
    record {
      within = carry_bounded edges flows amount way flow.within room;
      each = let same = flow.each in omega arith;
      valued = λ inside in_it.
          let carries = net_carry inside edges flows amount way among flow.within.sized in
          let before = flow.valued inside in_it in
          let begins = ap (λ (v : ℕ). at amount (inside v)) from in
          let ends_there = ap (λ (v : ℕ). at amount (inside v)) to in
          let starts = at_is amount (inside start) in
          let finishes = at_is amount (inside finish) in
          let set = room_in_set left inside finish amount ends enough in
          let more = room_in_more less inside start amount (omega arith) in
          omega (arith, ints);
    }
