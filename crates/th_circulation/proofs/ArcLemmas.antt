-- The arcs that are handed to a search are lawful, and its potentials are in range.
use Rattle.std.proofs.Common.{ℕ, Bool, true, false, ◌<◌, ◌≤◌, ◌-◌, ◌*◌, ℤ, pos, ◌-ℤ◌, List, [], ◌∷◌, All, length, max, fold, if◌then◌else◌, unsigned_abs, sym, subst, arith}
use Rattle.std.proofs.Math.Nat.{mul-le-mul}
use Rattle.std.proofs.lemmas.Int.{ints}
use Rattle.std.proofs.lemmas.List.Elements.{All-map, recursion_from_All}
use Rattle.std.specs.List.{AllByRecursion}
use Rattle.std.specs.Prelude.{slice_index_or}
use Rattle.th_network.specs.declared.links.Link.{Link}
use Rattle.th_search.specs.Potentials.{ArePotentials, largest_cost, value_at}
use Rattle.th_search.specs.Walks.{IsArc}
use Rattle.th_search.specs.declared.arcs.Arc.{Arc}
use Rattle.th_circulation.specs.Inside.Bounds.{farthest, height_bound}
use Rattle.th_circulation.specs.declared.slots.Slot.{Slot}
use Rattle.th_circulation.specs.Inside.Cycles.{link_at}
use Rattle.th_search.specs.Distances.{AreWithin}
use Rattle.th_circulation.specs.Inside.Graphs.{IsLinkGraph}
use Rattle.th_circulation.specs.Inside.Listings.{AreResidual, arc_of}
use Rattle.th_circulation.proofs.GraphLemmas.{IsNear, ends_at, near_at}
use Rattle.th_network.specs.Links.{largest_link_difference}
use Rattle.th_search.specs.Limits.{max_cost, max_vertices}
use Rattle.th_network.specs.Limits.{max_points}

arc_within : (forward : Bool) (tail head n : ℕ) (high low diff : ℤ) → tail < n → head < n → IsNear high low diff → IsArc n (record { tail = if forward then tail else head; head = if forward then head else tail; cost = if forward then (pos 0 -ℤ (diff -ℤ (high -ℤ low))) else (diff -ℤ (high -ℤ low)) })
arc_within true tail head n high low diff t h near = record { tail = t; head = h; cost = omega (arith, ints) }
arc_within false tail head n high low diff t h near = record { tail = h; head = t; cost = omega (arith, ints) }

pub arcs_are : (vertices : ℕ) (links : List Link) (weights : List ℕ) (diffs heights flows : List ℤ) (arcs : List Arc) (slots : List Slot) → IsLinkGraph vertices links weights → AreWithin (length links) largest_link_difference diffs → AreWithin vertices height_bound heights → AreResidual links weights diffs (value_at heights) flows arcs slots → All (IsArc vertices) arcs
arcs_are vertices links weights diffs heights flows arcs slots graph near_diffs near_heights residual =
    let f = arc_of links diffs (value_at heights) in
    subst (All (IsArc vertices)) (sym residual.is) (All-map (IsArc vertices) f slots (λ k d within.
    let slot = slice_index_or slots k d in
    let place = residual.within k d within in
    let ends = ends_at vertices links weights slot graph place in
    arc_within slot.is_forward (link_at links slot).tail (link_at links slot).head vertices (value_at heights (link_at links slot).head) (value_at heights (link_at links slot).tail) (slice_index_or diffs slot.place (pos 0)) ends.0 ends.1 (near_at vertices links weights heights diffs slot graph near_heights near_diffs place)))

largest_within : (arcs : List Arc) (n start : ℕ) → start ≤ max_cost → AllByRecursion (IsArc n) arcs → fold (λ most (arc : Arc). max most (unsigned_abs arc.cost)) start arcs ≤ max_cost
largest_within [] n start h each = h
largest_within (arc ∷ arcs) n start h each = let one = each.0.cost in largest_within arcs n (max start (unsigned_abs arc.cost)) (omega arith) each.1

pub potentials_within : (n : ℕ) (arcs : List Arc) (potentials : List ℤ) → n ≤ max_vertices → All (IsArc n) arcs → ArePotentials n arcs potentials → AreWithin n farthest potentials
potentials_within n arcs potentials few each found = record {
  each = found.each;
  small = λ k d within.
      let low = found.low k d within in
      let most = largest_within arcs n 0 (omega arith) (recursion_from_All (IsArc n) arcs each) in
      let product = bounded_product (n - 1) max_points (largest_cost arcs) max_cost (omega arith) most in
      omega arith;
}
  where
    bounded_product : (a b c d : ℕ) → a ≤ b → c ≤ d → a * c ≤ b * d
    bounded_product a b c d h k = mul-le-mul h k
