-- How many of the points before a place are no benchmarks, and which points have vertex 0.
use Rattle.std.proofs.Common.{◌≡◌, ℕ, ◌+◌, ◌<◌, ◌≤◌, ℤ, pos, List, [], Option, Some, None, is_none, map, slice_get, if◌then◌else◌, sym, ap, ◌∙◌, arith}
use Rattle.std.proofs.lemmas.List.{get_or-map, length-map}
use Rattle.std.proofs.lemmas.List.Sums.{count_by_more_no, count_by_more_yes, sum_by-take-le}
use Rattle.std.proofs.lemmas.Option.{get_or_from_slice_get, slice_get_within}
use Rattle.th_observations.specs.Observed.{Observed}
use Rattle.th_tables.specs.Rows.{BenchmarkRows, height_of}
use Rattle.th_points.specs.Points.{points}
use Rattle.th_points.specs.Places.{place_of}
use Rattle.th_network.specs.Vertices.{free_before, is_free, vertex_count, vertex_of}

-- what is found at a place is the height of its name
pub found_at : (benchmarks : BenchmarkRows) (names : List (List ℕ)) (k : ℕ) (name : List ℕ) (found : Option ℤ) → slice_get (map (height_of benchmarks) names) k ≡ Some found → slice_get names k ≡ Some name → height_of benchmarks name ≡ found
found_at benchmarks names k name found e at =
    let f = height_of benchmarks in
    sym (ap f (get_or_from_slice_get names k name name at)) ∙ sym (get_or-map f names k name found (slice_get_within names k name at)) ∙ get_or_from_slice_get (map f names) k found found e

-- a benchmark at a place does not add to the count
pub free_fixed : (benchmarks : BenchmarkRows) (names : List (List ℕ)) (k : ℕ) (height : ℤ) → slice_get (map (height_of benchmarks) names) k ≡ Some (Some height) → free_before benchmarks names (k + 1) ≡ free_before benchmarks names k
free_fixed benchmarks names k height e =
    let within = slice_get_within (map (height_of benchmarks) names) k (Some height) e in
    let long = length-map names (height_of benchmarks) in
    let found = sym (get_or-map (height_of benchmarks) names k [] None (omega arith)) ∙ get_or_from_slice_get (map (height_of benchmarks) names) k (Some height) None e in
    count_by_more_no (is_free benchmarks) names k [] (omega arith) (ap is_none found)

-- another point at a place adds 1
pub free_more : (benchmarks : BenchmarkRows) (names : List (List ℕ)) (k : ℕ) → slice_get (map (height_of benchmarks) names) k ≡ Some None → free_before benchmarks names (k + 1) ≡ free_before benchmarks names k + 1
free_more benchmarks names k e =
    let within = slice_get_within (map (height_of benchmarks) names) k None e in
    let long = length-map names (height_of benchmarks) in
    let found = sym (get_or-map (height_of benchmarks) names k [] (Some (pos 0)) (omega arith)) ∙ get_or_from_slice_get (map (height_of benchmarks) names) k None (Some (pos 0)) e in
    count_by_more_yes (is_free benchmarks) names k [] (omega arith) (ap is_none found)

-- the count stays below the number of vertices
pub free_most : (observations : List Observed) (benchmarks : BenchmarkRows) (k : ℕ) → free_before benchmarks (points observations benchmarks) k + 1 ≤ vertex_count observations benchmarks
free_most observations benchmarks k =
    let front = sum_by-take-le (λ other. if is_free benchmarks other then 1 else 0) (points observations benchmarks) k in
    omega arith

-- a benchmark has vertex 0, another point has none of that number
pub fixed_vertex : (observations : List Observed) (benchmarks : BenchmarkRows) (name : List ℕ) (height : ℤ) → height_of benchmarks name ≡ Some height → vertex_of observations benchmarks name ≡ 0
fixed_vertex observations benchmarks name height e =
    let names = points observations benchmarks in
    ap (λ (h : Option ℤ). if is_none h then free_before benchmarks names (place_of names name) + 1 else 0) e

pub free_vertex : (observations : List Observed) (benchmarks : BenchmarkRows) (name : List ℕ) → height_of benchmarks name ≡ None → 0 < vertex_of observations benchmarks name
free_vertex observations benchmarks name e =
    let names = points observations benchmarks in
    let same : vertex_of observations benchmarks name ≡ free_before benchmarks names (place_of names name) + 1 = ap (λ (h : Option ℤ). if is_none h then free_before benchmarks names (place_of names name) + 1 else 0) e in
    omega arith
