-- What one answer of a search does.
use Rattle.std.proofs.Common.{◌≡◌, ℕ, ◌≤◌, ℤ, pos, ◌+ℤ◌, ◌≤ℤ◌, List, All, length, sym, subst, arith, ◌⊎◌, inl, inr}
use Rattle.std.proofs.lemmas.Int.{ints}
use Rattle.th_network.specs.declared.links.Link.{Link}
use Rattle.th_search.specs.Potentials.{IsFeasible}
use Rattle.th_search.specs.Walks.{IsNegativeCycle}
use Rattle.th_search.specs.declared.arcs.Arc.{Arc}
use Rattle.th_circulation.specs.declared.slots.Slot.{Slot}
use Rattle.th_circulation.specs.Inside.Flows.{IsFlow, gain}
use Rattle.th_circulation.specs.Inside.Cycles.{HasRoom, sent}
use Rattle.th_circulation.specs.Inside.Listings.{AreResidual, slots_at}
use Rattle.th_circulation.specs.Inside.Proposals.{HasNoPotentials}
use Rattle.th_circulation.proofs.CycleLemmas.{cycle_keeps, cycle_raises}
use Rattle.th_circulation.proofs.NegativeCycles.{cycle_of_slots, cycle_saves}

-- an amount was sent along a negative cycle
abbrev pub IsSent : List ℕ → List Slot → List ℕ → List ℤ → List ℤ → Type 0
IsSent weights slots cycle old new = (amount : ℕ) × (1 ≤ amount) × All (HasRoom weights amount old) (slots_at slots cycle) × (new ≡ sent amount old (slots_at slots cycle))

pub sent_flow : (links : List Link) (weights : List ℕ) (diffs : List ℤ) (heights : ℕ → ℤ) (old new : List ℤ) (arcs : List Arc) (slots : List Slot) (cycle : List ℕ) → IsFlow links weights old → AreResidual links weights diffs heights old arcs slots → IsNegativeCycle arcs cycle → IsSent weights slots cycle old new → IsFlow links weights new
sent_flow links weights diffs heights old new arcs slots cycle flow residual negative h =
    subst (IsFlow links weights) (sym h.3) (cycle_keeps links weights old h.0 negative.closed.0 (slots_at slots cycle) flow (cycle_of_slots links weights diffs heights old arcs slots cycle h.0 residual negative h.2))

pub sent_gain_more : (links : List Link) (weights : List ℕ) (diffs : List ℤ) (heights : ℕ → ℤ) (old new : List ℤ) (arcs : List Arc) (slots : List Slot) (cycle : List ℕ) → length diffs ≡ length links → IsFlow links weights old → AreResidual links weights diffs heights old arcs slots → IsNegativeCycle arcs cycle → IsSent weights slots cycle old new → (gain old diffs +ℤ pos 1) ≤ℤ gain new diffs
sent_gain_more links weights diffs heights old new arcs slots cycle sized flow residual negative h =
    let one = h.1 in
    let raises = cycle_raises links weights diffs old h.0 negative.closed.0 (slots_at slots cycle) flow (cycle_of_slots links weights diffs heights old arcs slots cycle h.0 residual negative h.2) (cycle_saves links weights diffs heights old arcs slots cycle sized residual negative) in
    subst (λ (fs : List ℤ). (gain old diffs +ℤ pos 1) ≤ℤ gain fs diffs) (sym h.3) (omega (arith, ints))

-- where no values are potentials there are none, so else all is listed
pub all_listed : (arcs : List Arc) (values : List ℤ) (All : Type 0) → HasNoPotentials arcs ⊎ All → IsFeasible arcs values → All
all_listed arcs values All (inl none) feasible = absurd (none values feasible)
all_listed arcs values All (inr all) feasible = all

-- the same, of lists that are equal
pub sent_retold : (weights : List ℕ) (slots slots' : List Slot) (cycle cycle' : List ℕ) (old old' new new' : List ℤ) → slots' ≡ slots → cycle' ≡ cycle → old' ≡ old → new' ≡ new → IsSent weights slots' cycle' old' new' → IsSent weights slots cycle old new
sent_retold weights slots slots' cycle cycle' old old' new new' s c o n h =
    subst (λ (ss : List Slot). IsSent weights ss cycle old new) s (subst (λ (cs : List ℕ). IsSent weights slots' cs old new) c (subst (λ (os : List ℤ). IsSent weights slots' cycle' os new) o (subst (λ (ns : List ℤ). IsSent weights slots' cycle' old' ns) n h)))
