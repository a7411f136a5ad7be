-- Summation by vertices: what flows in balance carry along any heights is nothing.
use Rattle.std.proofs.Common.{◌≡◌, ℕ, zero, suc, Bool, true, false, ◌+◌, ◌<◌, ◌≤◌, ℤ, pos, ◌+ℤ◌, ◌-ℤ◌, ◌*ℤ◌, List, [], ◌∷◌, eqb, zip, if◌then◌else◌, refl, ap, ◌∙◌, arith}
use Rattle.std.proofs.lemmas.Int.{ints}
use Rattle.std.proofs.lemmas.Bool.{eqb-true, eqb-false}
use Rattle.std.proofs.Math.IntN.{*ℤ_comm, *ℤ-zero}
use Rattle.th_network.proofs.Products.{rise_split, times-plus}
use Rattle.th_network.proofs.Balance.{total_by-cons}
use Rattle.th_network.specs.declared.links.Link.{Link}
use Rattle.th_circulation.specs.Inside.Flows.{arriving, leaving}

-- the sum over the links of the flow times the rise of u from tail to head
abbrev pub carried : (ℕ → ℤ) → List Link → List ℤ → ℤ
carried u [] flows = pos 0
carried u (link ∷ links) [] = pos 0
carried u (link ∷ links) (flow ∷ flows) = flow *ℤ (u link.head -ℤ u link.tail) +ℤ carried u links flows

-- u at the vertices below n, put together one by one, and zero at the others
abbrev pub below : ℕ → (ℕ → ℤ) → ℕ → ℤ
below zero u v = pos 0
below (suc n) u v = below n u v +ℤ (if eqb v n then u n else pos 0)

-- a vertex above n
above_step : (u : ℕ → ℤ) (n v : ℕ) → n < v → (if eqb v n then u n else pos 0) ≡ pos 0
above_step u n v h = by (eqb v n) (eqb-true v n)
  where
    by : (b : Bool) → (b ≡ true → v ≡ n) → (if b then u n else pos 0) ≡ pos 0
    by true e = let same = e refl in absurd (omega arith)
    by false e = refl

below_above : (u : ℕ → ℤ) (n v : ℕ) → n ≤ v → below n u v ≡ pos 0
below_above u zero v h = refl
below_above u (suc n) v h =
    let rest = below_above u n v (omega arith) in
    let one = above_step u n v (omega arith) in
    omega (arith, ints)

at_or_under : (u : ℕ → ℤ) (n v : ℕ) → v < suc n → (v < n → below n u v ≡ u v) → below (suc n) u v ≡ u v
at_or_under u n v h rest = by (eqb v n) refl
  where
    by : (b : Bool) → eqb v n ≡ b → below n u v +ℤ (if b then u n else pos 0) ≡ u v
    by true e =
        let same = eqb-true v n e in
        let none = below_above u n v (omega arith) in
        let moved = ap u same in
        omega (arith, ints)
    by false e =
        let apart = eqb-false v n e in
        let k = rest (omega arith) in
        omega (arith, ints)

pub below_under : (u : ℕ → ℤ) (n v : ℕ) → v < n → below n u v ≡ u v
below_under u zero v h = absurd (omega arith)
below_under u (suc n) v h = at_or_under u n v h (below_under u n v)

-- the flow at one end, with the next vertex and without
end_more : (flow low at : ℤ) (b : Bool) → flow *ℤ (low +ℤ (if b then at else pos 0)) ≡ flow *ℤ low +ℤ at *ℤ (if b then flow else pos 0)
end_more flow low at true =
    let a = times-plus flow low at in
    let c = *ℤ_comm flow at in
    omega (arith, ints)
end_more flow low at false =
    let none = *ℤ-zero at in
    let same = ap (λ z. flow *ℤ z) (plus_zero low) in
    omega (arith, ints)
  where
    plus_zero : (z : ℤ) → z +ℤ pos 0 ≡ z
    plus_zero z = omega (arith, ints)

-- what one pair of a link and its flow brings to the vertex, and what it takes away
abbrev pub arrives : ℕ → (Link × ℤ) → ℤ
arrives vertex pair = if eqb pair.0.head vertex then pair.1 else pos 0

abbrev pub leaves : ℕ → (Link × ℤ) → ℤ
leaves vertex pair = if eqb pair.0.tail vertex then pair.1 else pos 0

carried_more : (u : ℕ → ℤ) (n : ℕ) (links : List Link) (flows : List ℤ) → carried (below (suc n) u) links flows ≡ carried (below n u) links flows +ℤ u n *ℤ (arriving links flows n -ℤ leaving links flows n)
carried_more u n [] flows = let none = *ℤ-zero (u n) in omega (arith, ints)
carried_more u n (link ∷ links) [] = let none = *ℤ-zero (u n) in omega (arith, ints)
carried_more u n (link ∷ links) (flow ∷ flows) =
    rise_split flow (below (suc n) u link.head) (below (suc n) u link.tail) (below n u link.head) (below n u link.tail) (u n) (arrives n (link, flow)) (leaves n (link, flow)) (carried (below (suc n) u) links flows) (carried (below n u) links flows) (arriving links flows n) (leaving links flows n) (arriving (link ∷ links) (flow ∷ flows) n) (leaving (link ∷ links) (flow ∷ flows) n) (end_more flow (below n u link.head) (u n) (eqb link.head n)) (end_more flow (below n u link.tail) (u n) (eqb link.tail n)) (carried_more u n links flows) (total_by-cons (arrives n) (link, flow) (zip links flows)) (total_by-cons (leaves n) (link, flow) (zip links flows))

-- along u at the vertices below n they carry nothing
carried_below : (u : ℕ → ℤ) (n : ℕ) (links : List Link) (flows : List ℤ) → ((v : ℕ) → arriving links flows v ≡ leaving links flows v) → carried (below n u) links flows ≡ pos 0
carried_below u zero links flows balanced = flat links flows
  where
    flat : (links : List Link) (flows : List ℤ) → carried (below 0 u) links flows ≡ pos 0
    flat [] flows = refl
    flat (link ∷ links) [] = refl
    flat (link ∷ links) (flow ∷ flows) =
        let rest = flat links flows in
        let none = *ℤ-zero flow in
        omega (arith, ints)
carried_below u (suc n) links flows balanced =
    let more = carried_more u n links flows in
    let rest = carried_below u n links flows balanced in
    let same = balanced n in
    let flat : arriving links flows n -ℤ leaving links flows n ≡ pos 0 = omega (arith, ints) in
    let none = ap (λ z. u n *ℤ z) flat ∙ *ℤ-zero (u n) in
    omega (arith, ints)

-- a number above each end
abbrev ends_bound : List Link → ℕ
ends_bound [] = 0
ends_bound (link ∷ links) = suc (link.head + link.tail + ends_bound links)

carried_same : (u : ℕ → ℤ) (n : ℕ) (links : List Link) (flows : List ℤ) → ends_bound links ≤ n → carried (below n u) links flows ≡ carried u links flows
carried_same u n [] flows h = refl
carried_same u n (link ∷ links) [] h = refl
carried_same u n (link ∷ links) (flow ∷ flows) h =
    let high = below_under u n link.head (omega arith) in
    let low = below_under u n link.tail (omega arith) in
    let rest = carried_same u n links flows (omega arith) in
    let rise : below n u link.head -ℤ below n u link.tail ≡ u link.head -ℤ u link.tail = omega (arith, ints) in
    let one = ap (λ z. flow *ℤ z) rise in
    omega (arith, ints)

-- the sum by vertices: flows in balance at each vertex carry nothing along u
pub nothing_carried : (u : ℕ → ℤ) (links : List Link) (flows : List ℤ) → ((v : ℕ) → arriving links flows v ≡ leaving links flows v) → carried u links flows ≡ pos 0
nothing_carried u links flows balanced =
    let same = carried_same u (ends_bound links) links flows (omega arith) in
    let none = carried_below u (ends_bound links) links flows balanced in
    omega (arith, ints)
