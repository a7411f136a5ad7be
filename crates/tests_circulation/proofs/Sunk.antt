-- Potentials that are lowered alike.
use Rattle.std.proofs.Common.{◌≡◌, ℕ, ◌+◌, ◌-◌, ◌*◌, ◌<◌, ◌≤◌, ℤ, pos, ◌+ℤ◌, ◌-ℤ◌, ◌≤ℤ◌, List, [], ◌∷◌, ◌++◌, All, length, take, max, fold, unsigned_abs, refl, ap, ◌∙◌, arith}
use Rattle.std.proofs.lemmas.List.{take_all, take_more}
use Rattle.std.proofs.lemmas.Int.{ints}
use Rattle.std.proofs.lemmas.List.Elements.{All-from_get_or, All-get_or}
use Rattle.th_search.specs.Limits.{max_cost}
use Rattle.th_search.specs.Walks.{IsArc, arc_at}
use Rattle.th_search.specs.Potentials.{ArePotentials, largest_cost, value_at}
use Rattle.th_search.specs.declared.arcs.Arc.{Arc}

abbrev larger : ℕ → Arc → ℕ
larger most arc = max most (unsigned_abs arc.cost)

fold_push : (a : ℕ) (arcs : List Arc) (arc : Arc) → fold larger a (arcs ++ arc ∷ []) ≡ larger (fold larger a arcs) arc
fold_push a [] arc = refl
fold_push a (first ∷ arcs) arc = fold_push (larger a first) arcs arc

-- one arc more, by its number
pub largest_next : (arcs : List Arc) (number : ℕ) → number < length arcs → largest_cost (take (number + 1) arcs) ≡ max (largest_cost (take number arcs)) (unsigned_abs (arc_at arcs number).cost)
largest_next arcs number within =
    ap largest_cost (take_more arcs number (record { tail = 0; head = 0; cost = pos 0 }) within)
    ∙ fold_push 0 (take number arcs) (arc_at arcs number)

-- all arcs
pub largest_all : (arcs : List Arc) (number : ℕ) → length arcs ≤ number → largest_cost (take number arcs) ≡ largest_cost arcs
largest_all arcs number all = ap largest_cost (take_all number arcs all)

-- a cost by the number of its arc
pub cost_within : (n : ℕ) (arcs : List Arc) (number : ℕ) → All (IsArc n) arcs → number < length arcs → unsigned_abs (arc_at arcs number).cost ≤ max_cost
cost_within n arcs number all within = (All-get_or (IsArc n) arcs number (record { tail = 0; head = 0; cost = pos 0 }) within all).cost

-- the largest cost for each vertex but one
pub product_is : (n : ℕ) (arcs : List Arc) (others most : ℕ) → others ≡ n - 1 → most ≡ largest_cost arcs → others * most ≡ (n - 1) * largest_cost arcs
product_is n arcs others most few is = ap (λ count. count * most) few ∙ ap (λ cost. (n - 1) * cost) is

-- they are potentials still
pub sunk_are_potentials : (n : ℕ) (arcs : List Arc) (before after : List ℤ) (deepest room : ℕ) → All (IsArc n) arcs → ArePotentials n arcs before → length after ≡ length before → ((v : ℕ) → v < length before → value_at after v ≡ value_at before v -ℤ pos room) → All (λ potential. unsigned_abs potential ≤ deepest) before → deepest + room ≤ (n - 1) * largest_cost arcs → ArePotentials n arcs after
sunk_are_potentials n arcs before after deepest room all are same each deep fits =
    let size = are.each in
    record {
      each = same ∙ are.each;
      feasible = All-from_get_or (λ arc. value_at after arc.head ≤ℤ (value_at after arc.tail +ℤ arc.cost)) arcs (record { tail = 0; head = 0; cost = pos 0 }) (λ k within.
          let arc = All-get_or (IsArc n) arcs k (record { tail = 0; head = 0; cost = pos 0 }) within all in
          let was = All-get_or (λ arc. value_at before arc.head ≤ℤ (value_at before arc.tail +ℤ arc.cost)) arcs k (record { tail = 0; head = 0; cost = pos 0 }) within are.feasible in
          let tail_in = arc.tail in
          let head_in = arc.head in
          let head = each (arc_at arcs k).head (omega arith) in
          let tail = each (arc_at arcs k).tail (omega arith) in
          omega (arith, ints));
      high = All-from_get_or (λ potential. potential ≤ℤ pos 0) after (pos 0) (λ v within.
          let was = All-get_or (λ potential. potential ≤ℤ pos 0) before v (pos 0) (omega arith) are.high in
          let here = each v (omega arith) in
          omega (arith, ints));
      low = All-from_get_or (λ potential. unsigned_abs potential ≤ (n - 1) * largest_cost arcs) after (pos 0) (λ v within.
          let was = All-get_or (λ potential. unsigned_abs potential ≤ deepest) before v (pos 0) (omega arith) deep in
          let here = each v (omega arith) in
          omega (arith, ints));
    }
