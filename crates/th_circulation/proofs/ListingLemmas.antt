-- Listing the slots that have room, one after another.
use Rattle.std.proofs.Common.{◌≡◌, ℕ, Bool, true, false, ◌<◌, ◌+◌, ◌++◌, ◌∷◌, [], ℤ, List, length, map, ap, sym, ◌∙◌, subst, arith, ◌⊎◌, inl, inr}
use Rattle.std.proofs.lemmas.List.{map-append}
use Rattle.std.proofs.lemmas.List.Elements.{All-append, All-cons, All-nil}
use Rattle.std.specs.List.{Contains}
use Rattle.th_network.specs.declared.links.Link.{Link}
use Rattle.th_search.specs.declared.arcs.Arc.{Arc}
use Rattle.th_circulation.specs.declared.slots.Slot.{Slot}
use Rattle.th_circulation.specs.Inside.Cycles.{HasRoom}
use Rattle.th_circulation.specs.Inside.Listings.{AreResidual, HasAllBefore, arc_of}

pub residual_pushed : (links : List Link) (weights : List ℕ) (diffs : List ℤ) (heights : ℕ → ℤ) (flows : List ℤ) (arcs : List Arc) (slots : List Slot) (slot : Slot) (arc : Arc) → AreResidual links weights diffs heights flows arcs slots → slot.place < length links → HasRoom weights 1 flows slot → arc ≡ arc_of links diffs heights slot → AreResidual links weights diffs heights flows (arcs ++ arc ∷ []) (slots ++ slot ∷ [])
residual_pushed links weights diffs heights flows arcs slots slot arc residual within room e = record {
  is = ap (λ found. found ++ arc ∷ []) residual.is ∙ ap (λ a. map (arc_of links diffs heights) slots ++ a ∷ []) e ∙ sym (map-append (arc_of links diffs heights) slots (slot ∷ []));
  within = All-append (λ s. s.place < length links) slots (slot ∷ []) residual.within (All-cons (λ s. s.place < length links) slot [] within (All-nil (λ s. s.place < length links)));
  room = All-append (HasRoom weights 1 flows) slots (slot ∷ []) residual.room (All-cons (HasRoom weights 1 flows) slot [] room (All-nil (HasRoom weights 1 flows)));
}

-- both slots of a place are there where they have room
pub all_more : (weights : List ℕ) (flows : List ℤ) (old slots : List Slot) (place : ℕ) → HasAllBefore weights flows old place → ((other : Slot) → Contains old other → Contains slots other) → (HasRoom weights 1 flows (record { place = place; is_forward = true }) → Contains slots (record { place = place; is_forward = true })) → (HasRoom weights 1 flows (record { place = place; is_forward = false }) → Contains slots (record { place = place; is_forward = false })) → HasAllBefore weights flows slots (place + 1)
all_more weights flows old slots place before kept along against slot less room = by (nat_or slot.place place less)
  where
    nat_or : (i n : ℕ) → i < n + 1 → (i < n) ⊎ (i ≡ n)
    nat_or i n h = grind arith

    listed : (forward : Bool) (i : ℕ) → i ≡ place → HasRoom weights 1 flows (record { place = i; is_forward = forward }) → Contains slots (record { place = i; is_forward = forward })
    listed true i e h = subst (λ (k : ℕ). Contains slots (record { place = k; is_forward = true })) (sym e) (along (subst (λ (k : ℕ). HasRoom weights 1 flows (record { place = k; is_forward = true })) e h))
    listed false i e h = subst (λ (k : ℕ). Contains slots (record { place = k; is_forward = false })) (sym e) (against (subst (λ (k : ℕ). HasRoom weights 1 flows (record { place = k; is_forward = false })) e h))

    by : (slot.place < place) ⊎ (slot.place ≡ place) → Contains slots slot
    by (inl earlier) = kept slot (before slot earlier room)
    by (inr here) = listed slot.is_forward slot.place here room
