-- Potentials of all residual arcs raise the heights to heights that the flows show.
use Rattle.std.proofs.Common.{◌≡◌, ℕ, suc, true, false, ◌<◌, ◌≤◌, ℤ, pos, ◌+ℤ◌, ◌-ℤ◌, ◌<ℤ◌, ◌≤ℤ◌, List, [], ◌∷◌, All, length, map, unsigned_abs, refl, ap, sym, ◌∙◌, subst, arith}
use Rattle.std.proofs.lemmas.Int.{ints}
use Rattle.std.proofs.lemmas.List.{get_or-map, length-map}
use Rattle.std.specs.Prelude.{slice_index_or}
use Rattle.std.specs.List.{Contains}
use Rattle.th_network.specs.declared.links.Link.{Link}
use Rattle.th_search.specs.declared.arcs.Arc.{Arc}
use Rattle.th_search.specs.Potentials.{IsFeasible, value_at}
use Rattle.th_circulation.specs.declared.slots.Slot.{Slot}
use Rattle.th_circulation.specs.Inside.Flows.{IsFlow, ShowsLinks, residual, residuals}
use Rattle.th_circulation.specs.Inside.Cycles.{SavesNothing, link_at}
use Rattle.th_circulation.specs.Inside.Listings.{AreResidual, HasAllBefore, arc_of}
use Rattle.th_circulation.proofs.CycleLemmas.{bounded_at}
use Rattle.th_circulation.proofs.GraphLemmas.{flows_long}
use Rattle.th_circulation.proofs.ShortestLemmas.{nothing_saved_shows, residual_at}

-- nothing is saved at one place
abbrev SavesNone : ℕ → ℤ → ℤ → Type 0
SavesNone w f r = (f <ℤ pos w → r ≤ℤ pos 0) × ((pos 0 -ℤ pos w) <ℤ f → pos 0 ≤ℤ r)

saves_by_place : (weights : List ℕ) (flows rests : List ℤ) → length flows ≡ length weights → length rests ≡ length weights → ((i : ℕ) → i < length weights → SavesNone (slice_index_or weights i 0) (slice_index_or flows i (pos 0)) (slice_index_or rests i (pos 0))) → SavesNothing weights flows rests
saves_by_place [] [] [] long wide each = tt
saves_by_place [] [] (rest ∷ rests) long wide each = absurd (omega arith)
saves_by_place [] (flow ∷ flows) rests long wide each = absurd (omega arith)
saves_by_place (weight ∷ weights) [] rests long wide each = absurd (omega arith)
saves_by_place (weight ∷ weights) (flow ∷ flows) [] long wide each = absurd (omega arith)
saves_by_place (weight ∷ weights) (flow ∷ flows) (rest ∷ rests) long wide each = (each 0 (omega arith), saves_by_place weights flows rests (omega arith) (omega arith) (λ i h. each (suc i) (omega arith)))

-- the arc of a slot that is there is feasible
abbrev Feasible : List ℤ → Arc → Type 0
Feasible values arc = value_at values arc.head ≤ℤ (value_at values arc.tail +ℤ arc.cost)

feasible_at : (links : List Link) (diffs : List ℤ) (heights : ℕ → ℤ) (arcs : List Arc) (slots : List Slot) (values : List ℤ) (slot : Slot) → arcs ≡ map (arc_of links diffs heights) slots → IsFeasible arcs values → Contains slots slot → Feasible values (arc_of links diffs heights slot)
feasible_at links diffs heights arcs slots values slot is feasible there =
    let k = there.0 in
    let f = arc_of links diffs heights in
    let all : All (Feasible values) (map f slots) = subst (All (Feasible values)) is feasible in
    let within = there.1 in
    let here = all k (f slot) (omega (arith, length-map slots f)) in
    subst (Feasible values) (get_or-map f slots k slot (f slot) within ∙ ap f there.2) here

one_saves : (w : ℕ) (f diff high low high' low' y z : ℤ) → high' ≡ high -ℤ y → low' ≡ low -ℤ z → unsigned_abs f ≤ w → (unsigned_abs (f +ℤ pos 1) ≤ w → y ≤ℤ (z +ℤ (pos 0 -ℤ (diff -ℤ (high -ℤ low))))) → (unsigned_abs (f +ℤ (pos 0 -ℤ pos 1)) ≤ w → z ≤ℤ (y +ℤ (diff -ℤ (high -ℤ low)))) → SavesNone w f (diff -ℤ (high' -ℤ low'))
one_saves w f diff high low high' low' y z e g bounded along against =
    (λ less. let h = along (omega (arith, ints)) in omega (arith, ints), λ more. let h = against (omega (arith, ints)) in omega (arith, ints))

pub potentials_show : (links : List Link) (weights : List ℕ) (diffs : List ℤ) (heights : ℕ → ℤ) (flows : List ℤ) (arcs : List Arc) (slots : List Slot) (values raised : List ℤ) → IsFlow links weights flows → length diffs ≡ length links → AreResidual links weights diffs heights flows arcs slots → HasAllBefore weights flows slots (length links) → IsFeasible arcs values → ((v : ℕ) → value_at raised v ≡ heights v -ℤ value_at values v) → ShowsLinks weights flows (residuals links diffs (value_at raised))
potentials_show links weights diffs heights flows arcs slots values raised flow sized residual before feasible is =
    let rests = residuals links diffs (value_at raised) in
    nothing_saved_shows weights flows rests flow.bounded (saves_by_place weights flows rests (flows_long weights flows flow.bounded) (let h = flow.sized in long ∙ sym h) each)
  where
    rests_long : (links : List Link) (diffs : List ℤ) (u : ℕ → ℤ) → length diffs ≡ length links → length (residuals links diffs u) ≡ length links
    rests_long [] [] u h = refl
    rests_long [] (diff ∷ diffs) u h = absurd (omega arith)
    rests_long (link ∷ links) [] u h = absurd (omega arith)
    rests_long (link ∷ links) (diff ∷ diffs) u h = ap suc (rests_long links diffs u (omega arith))

    long : length (residuals links diffs (value_at raised)) ≡ length links
    long = rests_long links diffs (value_at raised) sized

    each : (i : ℕ) → i < length weights → SavesNone (slice_index_or weights i 0) (slice_index_or flows i (pos 0)) (slice_index_or (residuals links diffs (value_at raised)) i (pos 0))
    each i h =
        let within : i < length links = (let k = flow.sized in omega arith) in
        let along : Slot = record { place = i; is_forward = true } in
        let against : Slot = record { place = i; is_forward = false } in
        let link = link_at links along in
        let w = slice_index_or weights i 0 in
        let f = slice_index_or flows i (pos 0) in
        let diff = slice_index_or diffs i (pos 0) in
        let saves = one_saves w f diff (heights link.head) (heights link.tail) (value_at raised link.head) (value_at raised link.tail) (value_at values link.head) (value_at values link.tail) (is link.head) (is link.tail) (bounded_at weights flows i flow.bounded)
        (λ room. feasible_at links diffs heights arcs slots values along residual.is feasible (before along within room))
        (λ room. feasible_at links diffs heights arcs slots values against residual.is feasible (before against within room)) in
        subst (SavesNone w f) (sym (residual_at links diffs (value_at raised) i (record { tail = 0; head = 0; diff = pos 0 }) sized within)) saves
