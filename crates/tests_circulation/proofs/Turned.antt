-- A cycle that begins at its second arc.
use Rattle.std.proofs.Common.{◌≡◌, ℕ, List, [], ◌∷◌, ◌++◌, drop, take, length, length-append, sym, subst, arith}
use Rattle.std.specs.Prelude.{nat_eq}
use Rattle.std.proofs.lemmas.Int.{ints}
use Rattle.std.proofs.lemmas.List.Sorted.{IsPermutation-append_comm, IsPermutation-map}
use Rattle.std.proofs.lemmas.Map.Keys.{IsDistinct-IsPermutation}
use Rattle.th_search.specs.Walks.{IsNegativeCycle, arc_at, entered_by}
use Rattle.th_search.specs.declared.arcs.Arc.{Arc}
use Rattle.th_search.proofs.FrontLemmas.{cost_push, walk_push}

nat_eq_same : (x y : ℕ) → nat_eq x y ≡ nat_eq y x
nat_eq_same x y = grind arith

turned : (arcs : List Arc) (first : ℕ) (rest : List ℕ) → IsNegativeCycle arcs (first ∷ rest) → IsNegativeCycle arcs (rest ++ first ∷ [])
turned arcs first rest cycle =
    let vertex = cycle.closed.0 in
    let leads = cycle.closed.1 in
    let costs = cost_push arcs rest first in
    let negative = cycle.negative in
    record {
      some = omega (arith, length-append {A = ℕ});
      closed = ((arc_at arcs first).head, walk_push arcs (arc_at arcs first).head rest vertex first leads.0 leads.1 leads.2);
      once = IsDistinct-IsPermutation nat_eq nat_eq_same (entered_by arcs (first ∷ rest)) (entered_by arcs (rest ++ first ∷ []))
          (IsPermutation-map (λ number. (arc_at arcs number).head) (first ∷ rest) (rest ++ first ∷ []) (IsPermutation-append_comm (first ∷ []) rest)) cycle.once;
      negative = omega (arith, ints);
    }

-- it is a cycle still
pub turned_is_cycle : (arcs : List Arc) (cycle after : List ℕ) → IsNegativeCycle arcs cycle → after ≡ drop 1 cycle ++ take 1 cycle → IsNegativeCycle arcs after
turned_is_cycle arcs [] after cycle is = let some = cycle.some in absurd (omega arith)
turned_is_cycle arcs (first ∷ rest) after cycle is = subst (IsNegativeCycle arcs) (sym is) (turned arcs first rest cycle)
