-- Residuals as the costs of slots: along a walk they add up to the costs and the rise of the heights; where no slot with room saves, the flow shows the heights.
use Rattle.std.proofs.Common.{◌≡◌, ℕ, zero, suc, Bool, true, false, ◌*◌, ◌<◌, ◌≤◌, ℤ, pos, negsuc, ◌+ℤ◌, ◌-ℤ◌, ◌*ℤ◌, ◌≤ℤ◌, ◌<ℤ◌, List, [], ◌∷◌, Option, Some, None, length, if◌then◌else◌, unsigned_abs, slice_get, refl, ap, ◌∙◌, arith}
use Rattle.std.proofs.lemmas.Int.{ints, by_lt_z}
use Rattle.std.proofs.lemmas.Option.{get_or_from_slice_get, slice_get_within}
use Rattle.std.proofs.Math.IntN.{*ℤ_comm, *ℤ-zero}
use Rattle.std.specs.Prelude.{slice_index_or}
use Rattle.std.specs.List.{AllZip}
use Rattle.std.specs.Option.{IsSomeAnd}
use Rattle.th_network.proofs.Products.{times-minus}
use Rattle.th_network.proofs.Balance.{total_by-cons}
use Rattle.th_network.specs.declared.links.Link.{Link}
use Rattle.th_circulation.specs.Inside.Flows.{ShowsLinks, residual, residuals}
use Rattle.th_circulation.specs.declared.slots.Slot.{Slot}
use Rattle.th_circulation.specs.Inside.Cycles.{tail_of, head_of, IsWalk, slot_cost, walk_cost, SavesNothing}

pub residual_at : (links : List Link) (diffs : List ℤ) (heights : ℕ → ℤ) (i : ℕ) (d : Link) → length diffs ≡ length links → i < length links → slice_index_or (residuals links diffs heights) i (pos 0) ≡ residual heights (slice_index_or links i d) (slice_index_or diffs i (pos 0))
residual_at [] diffs heights i d h k = absurd (omega arith)
residual_at (link ∷ links) [] heights i d h k = absurd (omega arith)
residual_at (link ∷ links) (diff ∷ diffs) heights zero d h k = refl
residual_at (link ∷ links) (diff ∷ diffs) heights (suc i) d h k = residual_at links diffs heights i d (omega arith) (omega arith)

slot_part : (b : Bool) (heights : ℕ → ℤ) (head tail : ℕ) (diff : ℤ) → (if b then (pos 0 -ℤ (diff -ℤ (heights head -ℤ heights tail))) else (diff -ℤ (heights head -ℤ heights tail))) ≡ (if b then (pos 0 -ℤ diff) else diff) +ℤ (heights (if b then head else tail) -ℤ heights (if b then tail else head))
slot_part true heights head tail diff = omega (arith, ints)
slot_part false heights head tail diff = omega (arith, ints)

slot_telescopes : (links : List Link) (diffs : List ℤ) (heights : ℕ → ℤ) (slot : Slot) (link : Link) → length diffs ≡ length links → slice_get links slot.place ≡ Some link → slot_cost (residuals links diffs heights) slot ≡ slot_cost diffs slot +ℤ (heights (head_of slot link) -ℤ heights (tail_of slot link))
slot_telescopes links diffs heights slot link sized e =
    let within = slice_get_within links slot.place link e in
    let same = get_or_from_slice_get links slot.place link link e in
    let read = residual_at links diffs heights slot.place link sized within ∙ ap (λ l. residual heights l (slice_index_or diffs slot.place (pos 0))) same in
    let moved = ap (λ z. if slot.is_forward then (pos 0 -ℤ z) else z) read in
    moved ∙ slot_part slot.is_forward heights link.head link.tail (slice_index_or diffs slot.place (pos 0))

pub walk_telescopes : (links : List Link) (diffs : List ℤ) (heights : ℕ → ℤ) (slots : List Slot) (from to : ℕ) → length diffs ≡ length links → IsWalk links from slots to → walk_cost (residuals links diffs heights) slots ≡ walk_cost diffs slots +ℤ (heights to -ℤ heights from)
walk_telescopes links diffs heights [] from to sized walk =
    let same = ap heights walk in
    omega (arith, ints)
walk_telescopes links diffs heights (slot ∷ slots) from to sized walk = by (walk_telescopes links diffs heights slots) (slice_get links slot.place) refl walk
  where
    by : ((middle to : ℕ) → length diffs ≡ length links → IsWalk links middle slots to → walk_cost (residuals links diffs heights) slots ≡ walk_cost diffs slots +ℤ (heights to -ℤ heights middle)) → (found : Option Link) → slice_get links slot.place ≡ found → IsSomeAnd found (λ link. (tail_of slot link ≡ from) × IsWalk links (head_of slot link) slots to) → walk_cost (residuals links diffs heights) (slot ∷ slots) ≡ walk_cost diffs (slot ∷ slots) +ℤ (heights to -ℤ heights from)
    by others None e h = absurd h
    by others (Some link) e h =
        let rest = others (head_of slot link) to sized h.1 in
        let one = slot_telescopes links diffs heights slot link sized e in
        let a = total_by-cons (slot_cost diffs) slot slots in
        let b = total_by-cons (slot_cost (residuals links diffs heights)) slot slots in
        let same = ap heights h.0 in
        omega (arith, ints)

-- one link: where no slot with room saves, the flow is the whole weight with the sign of the residual
one_shown : (w : ℕ) (f r : ℤ) → unsigned_abs f ≤ w → (f <ℤ pos w → r ≤ℤ pos 0) → ((pos 0 -ℤ pos w) <ℤ f → pos 0 ≤ℤ r) → f *ℤ r ≡ pos (w * unsigned_abs r)
one_shown w f (pos zero) bound grow shrink = let none = *ℤ-zero f in omega (arith, ints)
one_shown w f (pos (suc n)) bound grow shrink = ap (λ z. z *ℤ pos (suc n)) full
  where
    full : f ≡ pos w
    full = by_lt_z f (pos w) (λ less. let low = grow less in absurd (omega (arith, ints))) (λ more. omega (arith, ints))
one_shown w f (negsuc n) bound grow shrink =
    let turned = ap (λ z. z *ℤ negsuc n) full in
    let a = *ℤ_comm (pos 0 -ℤ pos w) (negsuc n) in
    let b = times-minus (negsuc n) (pos 0) (pos w) in
    let c = *ℤ-zero (negsuc n) in
    let d = *ℤ_comm (negsuc n) (pos w) in
    let e : negsuc n ≡ pos 0 -ℤ pos (suc n) = omega (arith, ints) in
    let g = ap (λ z. pos w *ℤ z) e ∙ times-minus (pos w) (pos 0) (pos (suc n)) in
    let k = *ℤ-zero (pos w) in
    omega (arith, ints)
  where
    full : f ≡ pos 0 -ℤ pos w
    full = by_lt_z (pos 0 -ℤ pos w) f (λ more. let high = shrink more in absurd (omega (arith, ints))) (λ less. omega (arith, ints))

pub nothing_saved_shows : (weights : List ℕ) (flows rests : List ℤ) → AllZip (λ weight flow. unsigned_abs flow ≤ weight) weights flows → SavesNothing weights flows rests → ShowsLinks weights flows rests
nothing_saved_shows [] [] [] h s = tt
nothing_saved_shows [] [] (rest ∷ rests) h s = absurd s
nothing_saved_shows [] (flow ∷ flows) rests h s = absurd h
nothing_saved_shows (weight ∷ weights) [] rests h s = absurd h
nothing_saved_shows (weight ∷ weights) (flow ∷ flows) [] h s = absurd s
nothing_saved_shows (weight ∷ weights) (flow ∷ flows) (rest ∷ rests) h s = (one_shown weight flow rest h.0 s.0.0 s.0.1, nothing_saved_shows weights flows rests h.1 s.1)
