-- Heights listed by points from heights by vertices.
use Rattle.std.proofs.Common.{◌≡◌, ℕ, ◌<◌, ◌+◌, ℤ, pos, ◌-ℤ◌, List, Option, Some, None, length, map, slice_get, unwrap_or, ap, sym, ◌∙◌, subst, arith}
use borrow.Author.Count.{below_more}
use Rattle.std.proofs.lemmas.List.{get_or-map, get_or-set_same, get_or-set_other}
use Rattle.std.proofs.lemmas.Option.{get_or_from_slice_get, slice_get_within}
use Rattle.std.specs.Prelude.{slice_index_or, slice_set}
use Rattle.th_observations.specs.Observed.{Observed}
use Rattle.th_tables.specs.Rows.{BenchmarkRows, height_of}
use Rattle.th_points.specs.Points.{points}
use Rattle.th_network.specs.Vertices.{vertex_of}
use Rattle.th_search.specs.Potentials.{value_at}
use Rattle.th_circulation.specs.Inside.PointHeights.{point_height}

-- what holds of each place before, and of the next, holds of each place up to it
pub set_more : (P : ℕ → ℤ → Type 0) (xs : List ℤ) (i : ℕ) (x : ℤ) → i < length xs → ((k : ℕ) → k < i → P k (value_at xs k)) → P i x → (k : ℕ) → k < i + 1 → P k (value_at (slice_set xs i x) k)
set_more P xs i x within before here = below_more (λ k. P k (value_at (slice_set xs i x) k)) i (λ k h. subst (P k) (sym (get_or-set_other xs i k x (pos 0) (λ e. omega arith))) (before k h)) (subst (P i) (sym (get_or-set_same xs i x (pos 0) within)) here)

-- a benchmark has its own height
pub point_height_fixed : (observations : List Observed) (benchmarks : BenchmarkRows) (heights : ℕ → ℤ) (name : List ℕ) (height : ℤ) → height_of benchmarks name ≡ Some height → height ≡ point_height observations benchmarks heights name
point_height_fixed observations benchmarks heights name height e = sym (ap (λ (found : Option ℤ). unwrap_or found (heights (vertex_of observations benchmarks name) -ℤ heights 0)) e)

-- another point has its height by its vertex
pub point_height_free : (observations : List Observed) (benchmarks : BenchmarkRows) (heights : ℕ → ℤ) (vertices : List ℕ) (k : ℕ) (name : List ℕ) → vertices ≡ map (vertex_of observations benchmarks) (points observations benchmarks) → slice_get (points observations benchmarks) k ≡ Some name → height_of benchmarks name ≡ None → heights (slice_index_or vertices k 0) -ℤ heights 0 ≡ point_height observations benchmarks heights name
point_height_free observations benchmarks heights vertices k name are at e =
    let names = points observations benchmarks in
    let f = vertex_of observations benchmarks in
    let vertex : slice_index_or vertices k 0 ≡ f name = ap (λ (vs : List ℕ). slice_index_or vs k 0) are ∙ get_or-map f names k name 0 (slice_get_within names k name at) ∙ ap f (get_or_from_slice_get names k name name at) in
    ap (λ (v : ℕ). heights v -ℤ heights 0) vertex ∙ sym (ap (λ (found : Option ℤ). unwrap_or found (heights (f name) -ℤ heights 0)) e)
