use Rattle.std.specs.Prelude.{◌≡◌, ℕ, ◌-◌, ◌*◌, ◌≤◌, ℤ, pos, ◌+ℤ◌, ◌≤ℤ◌, List, All, length, max, fold, slice_index_or, unsigned_abs}
use Rattle.th_search.specs.declared.arcs.Arc.{Arc}

-- the largest size of a cost; 0 without arcs
abbrev pub largest_cost : List Arc → ℕ
largest_cost arcs = fold (λ most arc. max most (unsigned_abs arc.cost)) 0 arcs

-- the value at a vertex, counted from 0
abbrev pub value_at : List ℤ → ℕ → ℤ
value_at values vertex = slice_index_or values vertex (pos 0)

-- for every arc, the value at its head is at most the value at its tail plus its cost
abbrev pub IsFeasible : List Arc → List ℤ → Type 0
IsFeasible arcs values = All (λ arc. value_at values arc.head ≤ℤ (value_at values arc.tail +ℤ arc.cost)) arcs

-- feasible potentials, one for each of n vertices: none is above zero, and none is below it by more than n - 1 times the largest cost
pub record ArePotentials (n : ℕ) (arcs : List Arc) (potentials : List ℤ) : Type 0 where
  pub each : length potentials ≡ n
  pub feasible : IsFeasible arcs potentials
  pub high : All (λ potential. potential ≤ℤ pos 0) potentials
  pub low : All (λ potential. unsigned_abs potential ≤ (n - 1) * largest_cost arcs) potentials
