-- Which vertices the entries lead back to.
use Rattle.std.proofs.Common.{◌≡◌, ◌≢◌, ℕ, zero, suc, ◌<◌, List, Option, None, Some, length, get_or, refl, sym, ap, ◌∙◌, subst}
use Rattle.std.proofs.lemmas.List.{get_or_default}
use Rattle.std.proofs.lemmas.Option.{same_Some}
use Rattle.th_search.specs.Walks.{arc_at}
use Rattle.th_search.specs.Inside.Entries.{IsOnCycle, IsRooted, MeetsAfter, Meets, entry_at}
use Rattle.th_search.specs.declared.arcs.Arc.{Arc}

-- what was read is the entry
pub entry_read : (entries : List (Option ℕ)) (v : ℕ) (r x : Option ℕ) → v < length entries → r ≡ get_or entries v r → r ≡ x → entry_at entries v ≡ x
entry_read entries v r x within read is = get_or_default entries v None r within ∙ sym read ∙ is

steps_next : (arcs : List Arc) (entries : List (Option ℕ)) (steps v number goal : ℕ) → entry_at entries v ≡ Some number → v ≢ goal → MeetsAfter arcs entries steps v goal → Meets arcs entries (arc_at arcs number).tail goal
steps_next arcs entries zero v number goal at other met = absurd (other met)
steps_next arcs entries (suc steps) v number goal at other met =
    (steps, subst (λ x. MeetsAfter arcs entries steps (arc_at arcs x).tail goal) (same_Some met.0 number (sym met.1 ∙ at)) met.2)

-- what is met from a vertex is met from the tail of its entry, and the other way round
pub meets_next : (arcs : List Arc) (entries : List (Option ℕ)) (v number goal : ℕ) → entry_at entries v ≡ Some number → v ≢ goal → Meets arcs entries v goal → Meets arcs entries (arc_at arcs number).tail goal
meets_next arcs entries v number goal at other met = steps_next arcs entries met.0 v number goal at other met.1

pub meets_before : (arcs : List Arc) (entries : List (Option ℕ)) (v number goal : ℕ) → entry_at entries v ≡ Some number → Meets arcs entries (arc_at arcs number).tail goal → Meets arcs entries v goal
meets_before arcs entries v number goal at met = (suc met.0, (number, at, met.1))

pub cycle_met : (arcs : List Arc) (entries : List (Option ℕ)) (v number : ℕ) → entry_at entries v ≡ Some number → IsOnCycle arcs entries v → Meets arcs entries (arc_at arcs number).tail v
cycle_met arcs entries v number at cycle =
    (cycle.0, subst (λ x. MeetsAfter arcs entries cycle.0 (arc_at arcs x).tail v) (same_Some cycle.1.0 number (sym cycle.1.1 ∙ at)) cycle.1.2)

-- what is met from the tail of an entry makes a cycle with it
pub cycle_closed : (arcs : List Arc) (entries : List (Option ℕ)) (v number : ℕ) → entry_at entries v ≡ Some number → Meets arcs entries (arc_at arcs number).tail v → IsOnCycle arcs entries v
cycle_closed arcs entries v number at met = (met.0, (number, at, met.1))

-- one step more
pub meets_more : (arcs : List Arc) (entries : List (Option ℕ)) (steps v w number : ℕ) → entry_at entries w ≡ Some number → MeetsAfter arcs entries steps v w → MeetsAfter arcs entries (suc steps) v (arc_at arcs number).tail
meets_more arcs entries zero v w number at met = (number, ap (entry_at entries) met ∙ at, refl)
meets_more arcs entries (suc steps) v w number at met = (met.0, met.1, meets_more arcs entries steps (arc_at arcs met.0).tail w number at met.2)

-- what meets a vertex from which the entries end is one too
pub rooted_before : (arcs : List Arc) (entries : List (Option ℕ)) (steps v w : ℕ) → IsRooted arcs entries w → MeetsAfter arcs entries steps v w → IsRooted arcs entries v
rooted_before arcs entries zero v w root met = subst (IsRooted arcs entries) (sym met) root
rooted_before arcs entries (suc steps) v w root met =
    let rest = rooted_before arcs entries steps (arc_at arcs met.0).tail w root met.2 in (suc rest.0, (met.0, met.1, rest.1))
