-- What is found place by place is so of the network: its ties and its vertices.
use Rattle.std.proofs.Common.{◌≡◌, ℕ, ◌+◌, ◌<◌, Bool, true, false, List, [], length, get_or, slice_get, take, map, Option, Some, None, All, is_none, count_by, if◌then◌else◌, refl, sym, ap, ◌∙◌, subst, arith, length-take}
use Rattle.std.proofs.lemmas.List.{take_all, take-take, get_or-map, get_or-take, length-map, same_lists}
use Rattle.std.proofs.lemmas.List.Elements.{All-from_recursion, All-map}
use Rattle.std.proofs.lemmas.List.Sums.{sum_by-take-le, count_by_more_yes}
use Rattle.std.proofs.lemmas.Option.{slice_get_within, slice_get-get_or, get_or_from_slice_get}
use Rattle.th_observations.specs.Observed.{Observed}
use Rattle.th_tables.specs.Rows.{BenchmarkRows, height_of}
use Rattle.th_points.specs.Points.{points}
use Rattle.th_points.specs.Places.{place_of}
use Rattle.th_points.specs.Ends.{ArePoints, ends_of}
use Rattle.th_network.specs.Inside.Numbered.{AreVertices}
use Rattle.th_network.specs.Inside.Reached.{IsFirstUnreached}
use Rattle.th_network.specs.Walks.{IsTied, Anchored}
use Rattle.th_network.specs.Faults.{IsFirstUntied}
use Rattle.th_network.specs.Vertices.{is_free, free_before, vertex_at, vertex_of, vertex_count}
use Rattle.th_network.specs.Links.{link_of}
use Rattle.th_network.specs.declared.links.Link.{Link}
use Rattle.th_network.proofs.Balance.{weaker}
use Rattle.th_points.proofs.PointLemmas.{is_among, EndsAmong, ends_are_points}
use Rattle.th_points.proofs.PlaceLemmas.{at_place_of, place_of_at, points_distinct}
use Rattle.th_network.proofs.TieLemmas.{point_heights, IsPointReached, tied_from_reached, reached_from_tied}

-- ---- what is found of places, said of points
unreached_of_points : (observations : List Observed) (benchmarks : BenchmarkRows) (names : List (List ℕ)) (ends : List (ℕ × ℕ)) (found : Option (List ℕ)) → ArePoints observations benchmarks names ends → IsFirstUnreached (map (height_of benchmarks) names) ends names found → IsFirstUnreached (point_heights observations benchmarks) (ends_of observations benchmarks) (points observations benchmarks) found
unreached_of_points observations benchmarks names ends found h first =
    subst (λ (ns : List (List ℕ)). IsFirstUnreached (map (height_of benchmarks) ns) (ends_of observations benchmarks) ns found) h.all (subst (λ (es : List (ℕ × ℕ)). IsFirstUnreached (map (height_of benchmarks) names) es names found) h.placed first)

tied_below : (observations : List Observed) (benchmarks : BenchmarkRows) (n : ℕ) → ((place : ℕ) → place < n → IsPointReached observations benchmarks place) → All (IsTied observations benchmarks) (take n (points observations benchmarks))
tied_below observations benchmarks n reached = λ k d within.
    let names = points observations benchmarks in
    let below : k < n = omega (arith, length-take n names) in
    let here : slice_get names k ≡ Some (get_or (take n names) k d) = slice_get-get_or names k d (omega (arith, length-take n names)) ∙ ap Some (sym (get_or-take n names k d below)) in
    tied_from_reached observations benchmarks k (reached k below) (get_or (take n names) k d) here

pub first_untied_of_points : (observations : List Observed) (benchmarks : BenchmarkRows) (names : List (List ℕ)) (ends : List (ℕ × ℕ)) (name : List ℕ) → ArePoints observations benchmarks names ends → IsFirstUnreached (map (height_of benchmarks) names) ends names (Some name) → IsFirstUntied observations benchmarks name
first_untied_of_points observations benchmarks names ends name h first =
    let found = unreached_of_points observations benchmarks names ends (Some name) h first in
    (found.0, found.1, tied_below observations benchmarks found.0 found.2, λ tied. found.3 (reached_from_tied observations benchmarks found.0 name found.1 tied))

pub anchored_points : (observations : List Observed) (benchmarks : BenchmarkRows) (names : List (List ℕ)) (ends : List (ℕ × ℕ)) → ArePoints observations benchmarks names ends → IsFirstUnreached (map (height_of benchmarks) names) ends names None → Anchored observations benchmarks
anchored_points observations benchmarks names ends h all =
    let found = unreached_of_points observations benchmarks names ends None h all in
    let ps = points observations benchmarks in
    subst (All (IsTied observations benchmarks)) (take_all (length ps) ps (omega arith)) (tied_below observations benchmarks (length ps) found)

-- ---- vertices
-- a point has a vertex
vertex_at_within : (observations : List Observed) (benchmarks : BenchmarkRows) (place : ℕ) (name : List ℕ) → slice_get (points observations benchmarks) place ≡ Some name → vertex_at benchmarks (points observations benchmarks) place name < vertex_count observations benchmarks
vertex_at_within observations benchmarks place name at = by (is_free benchmarks name) refl
  where
    names : List (List ℕ)
    names = points observations benchmarks

    by : (b : Bool) → is_free benchmarks name ≡ b → (if b then free_before benchmarks names place + 1 else 0) < vertex_count observations benchmarks
    by true e =
        let within = slice_get_within names place name at in
        let one = count_by_more_yes (is_free benchmarks) names place name within (ap (is_free benchmarks) (get_or_from_slice_get names place name name at) ∙ e) in
        let front = sum_by-take-le (λ other. if is_free benchmarks other then 1 else 0) names (place + 1) in
        omega arith
    by false e = omega arith

pub vertex_within : (observations : List Observed) (benchmarks : BenchmarkRows) (name : List ℕ) → is_among (points observations benchmarks) name ≡ true → vertex_of observations benchmarks name < vertex_count observations benchmarks
vertex_within observations benchmarks name there =
    let names = points observations benchmarks in
    vertex_at_within observations benchmarks (place_of names name) name (at_place_of names name there)

pub arcs_within : (observations : List Observed) (benchmarks : BenchmarkRows) (arcs : List Link) → arcs ≡ map (link_of observations benchmarks) observations → All (λ arc. (arc.tail < vertex_count observations benchmarks) × (arc.head < vertex_count observations benchmarks)) arcs
arcs_within observations benchmarks arcs is =
    let Within : Link → Type 0 = λ arc. (arc.tail < vertex_count observations benchmarks) × (arc.head < vertex_count observations benchmarks) in
    let names = points observations benchmarks in
    let each : All (λ o. Within (link_of observations benchmarks o)) observations = All-from_recursion (λ o. Within (link_of observations benchmarks o)) observations (weaker (EndsAmong names) (λ o. Within (link_of observations benchmarks o)) (λ o h. (vertex_within observations benchmarks o.station h.0, vertex_within observations benchmarks o.target h.1)) observations (ends_are_points observations benchmarks)) in
    subst (All Within) (sym is) (All-map Within (link_of observations benchmarks) observations each)

-- the vertex of the point at a place
pub vertex_by_place : (observations : List Observed) (benchmarks : BenchmarkRows) (place : ℕ) (name : List ℕ) → slice_get (points observations benchmarks) place ≡ Some name → vertex_of observations benchmarks name ≡ vertex_at benchmarks (points observations benchmarks) place name
vertex_by_place observations benchmarks place name at =
    let names = points observations benchmarks in
    ap (λ (k : ℕ). vertex_at benchmarks names k name) (place_of_at names place name (points_distinct observations benchmarks) at)

-- the vertices of all points
pub point_vertices_are : (observations : List Observed) (benchmarks : BenchmarkRows) (vertices : List ℕ) (count : ℕ) → AreVertices benchmarks (points observations benchmarks) vertices count → vertices ≡ map (vertex_of observations benchmarks) (points observations benchmarks)
point_vertices_are observations benchmarks vertices count are =
    let names = points observations benchmarks in
    let f = vertex_of observations benchmarks in
    same_lists vertices (map f names) (are.size ∙ sym (length-map names f)) (λ k d within.
    let at : k < length names = omega (arith, are.size) in
    let name = get_or names k [] in
    let here = slice_get-get_or names k [] at in
    get_or_from_slice_get vertices k (vertex_at benchmarks names k name) d (are.each k name here) ∙ sym (get_or-map f names k [] d at ∙ vertex_by_place observations benchmarks k name here))

pub point_vertices_within : (observations : List Observed) (benchmarks : BenchmarkRows) (vertices : List ℕ) → vertices ≡ map (vertex_of observations benchmarks) (points observations benchmarks) → All (λ vertex. vertex < vertex_count observations benchmarks) vertices
point_vertices_within observations benchmarks vertices is =
    let names = points observations benchmarks in
    let Within : ℕ → Type 0 = λ vertex. vertex < vertex_count observations benchmarks in
    subst (All Within) (sym is) (All-map Within (vertex_of observations benchmarks) names (λ k d within.
    let name = get_or names k d in
    let here = slice_get-get_or names k d within in
    subst Within (sym (vertex_by_place observations benchmarks k name here)) (vertex_at_within observations benchmarks k name here)))

-- that of a point which is no benchmark
pub free_vertex_at : (observations : List Observed) (benchmarks : BenchmarkRows) (place : ℕ) (name : List ℕ) → slice_get (points observations benchmarks) place ≡ Some name → is_free benchmarks name ≡ true → vertex_of observations benchmarks name ≡ free_before benchmarks (points observations benchmarks) place + 1
free_vertex_at observations benchmarks place name at free =
    vertex_by_place observations benchmarks place name at ∙ ap (λ (b : Bool). if b then free_before benchmarks (points observations benchmarks) place + 1 else 0) free

-- of two points that are no benchmark the later has the greater vertex
later_vertex : (observations : List Observed) (benchmarks : BenchmarkRows) (j k : ℕ) (first second : List ℕ) → slice_get (points observations benchmarks) j ≡ Some first → slice_get (points observations benchmarks) k ≡ Some second → is_free benchmarks first ≡ true → is_free benchmarks second ≡ true → j < k → vertex_of observations benchmarks first < vertex_of observations benchmarks second
later_vertex observations benchmarks j k first second at_j at_k free_j free_k before =
    let names = points observations benchmarks in
    let one = count_by_more_yes (is_free benchmarks) names j first (slice_get_within names j first at_j) (ap (is_free benchmarks) (get_or_from_slice_get names j first first at_j) ∙ free_j) in
    let front = sum_by-take-le (λ other. if is_free benchmarks other then 1 else 0) (take k names) (j + 1) in
    let same : count_by (is_free benchmarks) (take (j + 1) (take k names)) ≡ count_by (is_free benchmarks) (take (j + 1) names) = ap (count_by (is_free benchmarks)) (take-take (j + 1) k names (omega arith)) in
    let lower = free_vertex_at observations benchmarks j first at_j free_j in
    let upper = free_vertex_at observations benchmarks k second at_k free_k in
    omega arith

pub vertices_apart : (observations : List Observed) (benchmarks : BenchmarkRows) (j k : ℕ) (first second : List ℕ) → slice_get (points observations benchmarks) j ≡ Some first → slice_get (points observations benchmarks) k ≡ Some second → height_of benchmarks first ≡ None → height_of benchmarks second ≡ None → vertex_of observations benchmarks first ≡ vertex_of observations benchmarks second → first ≡ second
vertices_apart observations benchmarks j k first second at_j at_k free_j free_k same =
    let a = ap is_none free_j in
    let b = ap is_none free_k in
    let not_later : ¬ (j < k) = λ before. let less = later_vertex observations benchmarks j k first second at_j at_k a b before in omega arith in
    let not_earlier : ¬ (k < j) = λ before. let less = later_vertex observations benchmarks k j second first at_k at_j b a before in omega arith in
    let place : j ≡ k = omega arith in
    cc (sym at_j ∙ ap (slice_get (points observations benchmarks)) place ∙ at_k)
