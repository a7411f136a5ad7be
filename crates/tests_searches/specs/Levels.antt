use Rattle.std.specs.Prelude.{◌≡◌, ℕ, suc, ◌<◌, ℤ, pos, ◌+ℤ◌, ◌≤ℤ◌, ◌<ℤ◌, List, [], Option, None, Some, length, map, slice_index_or}
use Rattle.th_search.specs.Walks.{arc_at}
use Rattle.th_search.specs.Potentials.{value_at}
use Rattle.th_search.specs.declared.arcs.Arc.{Arc}
use Rattle.tests_searches.specs.declared.levels.Level.{Level}

-- a row of the table: for each vertex a cost, and the last arc of a walk with this cost if the cost is new in this row
pub record Row : Type 0 where
  pub costs : List ℤ
  pub last : List (Option ℕ)

abbrev pub row_of : Level → Row
row_of level = record { costs = level.costs.items; last = level.last.items }

abbrev pub rows_of : List Level → List Row
rows_of levels = map row_of levels

-- the row with this number, counted from 0; a row without vertices if there is none
abbrev pub row_at : List Row → ℕ → Row
row_at rows k = slice_index_or rows k (record { costs = []; last = [] })

-- the last arc of the walk to a vertex, if its cost is new in this row
abbrev pub last_at : Row → ℕ → Option ℕ
last_at row vertex = slice_index_or row.last vertex None

-- the arc leads to the vertex, and from the row below to its cost in the row above, which is lower than in the row below
pub record Falls (arcs : List Arc) (below above : Row) (vertex number : ℕ) : Type 0 where
  pub within : number < length arcs
  pub head : (arc_at arcs number).head ≡ vertex
  pub is : value_at above.costs vertex ≡ value_at below.costs (arc_at arcs number).tail +ℤ (arc_at arcs number).cost
  pub less : value_at above.costs vertex <ℤ value_at below.costs vertex

-- the row of walks with one more arc: no arc leads from the row below to a lower cost, and each cost is that of the row below or one that an arc leads to
pub record IsAbove (arcs : List Arc) (below above : Row) : Type 0 where
  pub costs : length above.costs ≡ length below.costs
  pub last : length above.last ≡ length below.costs
  pub least : (number : ℕ) → number < length arcs → value_at above.costs (arc_at arcs number).head ≤ℤ (value_at below.costs (arc_at arcs number).tail +ℤ (arc_at arcs number).cost)
  pub kept : (vertex : ℕ) → last_at above vertex ≡ None → value_at above.costs vertex ≡ value_at below.costs vertex
  pub fell : (vertex number : ℕ) → last_at above vertex ≡ Some number → Falls arcs below above vertex number

-- rows of n vertices: the first has zeros only, and each other is the next after the row before it
pub record AreLevels (n : ℕ) (arcs : List Arc) (rows : List Row) : Type 0 where
  pub costs : (k : ℕ) → k < length rows → length (row_at rows k).costs ≡ n
  pub last : (k : ℕ) → k < length rows → length (row_at rows k).last ≡ n
  pub first : (vertex : ℕ) → value_at (row_at rows 0).costs vertex ≡ pos 0
  pub next : (k : ℕ) → suc k < length rows → IsAbove arcs (row_at rows k) (row_at rows (suc k))
