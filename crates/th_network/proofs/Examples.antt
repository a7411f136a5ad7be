-- The definitions at small networks, so that they are seen to mean what their words say. Heights are in units of 10 nm.
use Rattle.std.proofs.Common.{◌≡◌, ℕ, ℤ, pos, neg_ℤ, List, [], ◌∷◌, Some, None, Contains, IsSome, bytes_eq, unwrap_or, if◌then◌else◌, inr, refl, ap, ◌∙◌, arith, Bool, true, false, not}
use Rattle.std.proofs.lemmas.List.Elements.{All-from_recursion, All-nil}
use Rattle.std.proofs.lemmas.Slice.Eq.{bytes_eq-Decides}
use Rattle.th_observations.specs.Observed.{Observed}
use Rattle.th_tables.specs.Rows.{BenchmarkRows, height_of, weight_of}
use Rattle.th_points.specs.Points.{points}
use Rattle.th_network.specs.Walks.{Walk, IsTied}
use Rattle.th_network.specs.declared.faults.NetFault.TheVariants.{NoBenchmark}
use Rattle.th_network.specs.Faults.{HasFault}
use Rattle.th_network.specs.Heights.{IsHeights, residual, cost, fine_cost, LeastFine}
use Rattle.th_network.specs.Circulation.{arriving, leaving, Circulation, Shows}
use Rattle.th_network.specs.Links.{link_difference, link_of}
use Rattle.th_network.specs.Vertices.{vertex_of, vertex_count}
use Rattle.th_network.proofs.WalkLemmas.{untied_inside}
use Rattle.th_network.proofs.Slackness.{slackness}

abbrev a : List ℕ
a = 65 ∷ []

abbrev b : List ℕ
b = 66 ∷ []

abbrev c : List ℕ
c = 67 ∷ []

abbrev z : List ℕ
z = 90 ∷ []

abbrev seen : List ℕ → List ℕ → ℤ → ℕ → Observed
seen from to rise at = record { station = from; target = to; difference = rise; book = 1; line = at }

abbrev at_hundred : BenchmarkRows
at_hundred = (a, pos 10000000000) ∷ []

-- ---- one observation of 2.545 m from a to b
abbrev single : List Observed
single = seen a b (pos 254500000) 2 ∷ []

single_points : points single at_hundred ≡ a ∷ b ∷ []
unfolding points
single_points = refl

-- a benchmark that is never seen is a point, after those that are
unseen_benchmark_last : points single ((a, pos 10000000000) ∷ (z, pos 500000000) ∷ []) ≡ a ∷ b ∷ z ∷ []
unfolding points
unseen_benchmark_last = refl

-- the order of first sight, not that of the table
first_sight_first : points (seen c a (pos 0) 2 ∷ seen a b (pos 0) 3 ∷ []) ((b, pos 0) ∷ (z, pos 0) ∷ (a, pos 0) ∷ []) ≡ c ∷ a ∷ b ∷ z ∷ []
unfolding points
first_sight_first = refl

single_link : link_difference at_hundred (seen a b (pos 254500000) 2) ≡ pos 10254500000
single_link = refl

two_benchmarks_link : link_difference ((a, pos 10000000000) ∷ (b, pos 10300000000) ∷ []) (seen a b (pos 254500000) 2) ≡ neg_ℤ (pos 45500000)
two_benchmarks_link = refl

two_benchmarks_residual : residual (seen a b (pos 254500000) 2) (λ name. if bytes_eq name a then pos 10000000000 else pos 10300000000) ≡ neg_ℤ (pos 45500000)
two_benchmarks_residual = refl

-- between two benchmarks nothing has to be in balance
two_benchmarks_circulation : Circulation single ((a, pos 10000000000) ∷ (b, pos 10300000000) ∷ []) [] (neg_ℤ (pos 1) ∷ [])
unfolding points
two_benchmarks_circulation = record {
  bounded = (omega arith, tt);
  balanced = All-from_recursion (λ point. height_of ((a, pos 10000000000) ∷ (b, pos 10300000000) ∷ []) point ≡ None → arriving single (neg_ℤ (pos 1) ∷ []) point ≡ leaving single (neg_ℤ (pos 1) ∷ []) point) (a ∷ b ∷ []) ((λ absent. absurd (grind arith)), ((λ absent. absurd (grind arith)), tt));
}

-- a weight is that of the ordered pair, and 1 where none is listed
listed_weight : weight_of (((a, b), 3) ∷ []) a b ≡ 3
listed_weight = refl

other_way_weight : weight_of (((a, b), 3) ∷ []) b a ≡ 1
other_way_weight = refl

-- the one benchmark stands apart: the station, which comes before the target, is the first point without
apart : HasFault single ((z, pos 10000000000) ∷ []) (NoBenchmark a)
unfolding points
apart = (omega arith, omega arith, (0, refl, All-nil (IsTied single ((z, pos 10000000000) ∷ [])), untied_inside single ((z, pos 10000000000) ∷ []) (λ name. not (bytes_eq name z)) (All-from_recursion (λ o. not (bytes_eq o.station z) ≡ not (bytes_eq o.target z)) single (refl, tt)) outside a refl))
  where
    by : (t : Bool) → IsSome (if t then Some (pos 10000000000) else None) → not t ≡ false
    by true listed = refl
    by false listed = absurd (grind arith)

    outside : (name : List ℕ) → IsSome (height_of ((z, pos 10000000000) ∷ []) name) → not (bytes_eq name z) ≡ false
    outside name listed = by (bytes_eq name z) listed

-- ---- four observations round a loop, of which the last disagrees by half a metre
abbrev loop : List Observed
loop = seen a b (pos 100000000) 2 ∷ seen b c (pos 100000000) 4 ∷ seen c a (neg_ℤ (pos 200000000)) 6 ∷ seen a c (pos 250000000) 8 ∷ []

abbrev loop_heights : List ℕ → ℤ
loop_heights name = if bytes_eq name b then pos 10100000000 else (if bytes_eq name c then pos 10200000000 else pos 10000000000)

loop_cost : cost loop [] loop_heights ≡ 50000000
loop_cost = refl

-- in millionths of a unit, other heights
loop_fine_cost : fine_cost 1000000 loop [] (λ name. if bytes_eq name b then pos 10100000000000001 else (if bytes_eq name c then pos 10200000000000000 else pos 10000000000000000)) ≡ 50000000000002
loop_fine_cost = refl

-- against the direction of the last observation
loop_walk : Walk loop c a
loop_walk = (seen a c (pos 250000000) 8 ∷ [], All-from_recursion (Contains loop) (seen a c (pos 250000000) 8 ∷ []) ((3, omega arith, refl), tt), inr (refl, refl))

loop_kept : IsHeights at_hundred loop_heights
loop_kept name height listed = by (bytes_eq name a) (bytes_eq-Decides name a).0 listed
  where
    by : (t : Bool) → (t ≡ true → name ≡ a) → (if t then Some (pos 10000000000) else None) ≡ Some height → loop_heights name ≡ height
    by true same found = ap loop_heights (same refl) ∙ ap (λ o. unwrap_or o (pos 0)) found
    by false same found = absurd (grind arith)

loop_circulation : Circulation loop at_hundred [] (pos 0 ∷ pos 0 ∷ pos 1 ∷ pos 1 ∷ [])
unfolding points
loop_circulation = record {
  bounded = (omega arith, (omega arith, (omega arith, (omega arith, tt))));
  balanced = All-from_recursion (λ point. height_of at_hundred point ≡ None → arriving loop (pos 0 ∷ pos 0 ∷ pos 1 ∷ pos 1 ∷ []) point ≡ leaving loop (pos 0 ∷ pos 0 ∷ pos 1 ∷ pos 1 ∷ []) point) (a ∷ b ∷ c ∷ []) ((λ absent. refl), ((λ absent. refl), ((λ absent. refl), tt)));
}

loop_shown : Shows loop [] (pos 0 ∷ pos 0 ∷ pos 1 ∷ pos 1 ∷ []) loop_heights
loop_shown = (refl, (refl, (refl, (refl, tt))))

-- no heights that keep the benchmark cost less
loop_least : LeastFine loop at_hundred [] loop_heights
loop_least = slackness loop at_hundred [] loop_heights (pos 0 ∷ pos 0 ∷ pos 1 ∷ pos 1 ∷ []) loop_kept loop_circulation loop_shown

-- one flow alone arrives at c and does not leave
loop_arrives : arriving loop (pos 0 ∷ pos 0 ∷ pos 0 ∷ pos 1 ∷ []) c ≡ pos 1
loop_arrives = refl

loop_leaves : leaving loop (pos 0 ∷ pos 0 ∷ pos 0 ∷ pos 1 ∷ []) c ≡ pos 0
loop_leaves = refl

-- the benchmark is vertex 0, and the other points are numbered in their order
loop_vertices : (vertex_of loop at_hundred a ≡ 0) × (vertex_of loop at_hundred b ≡ 1) × (vertex_of loop at_hundred c ≡ 2) × (vertex_count loop at_hundred ≡ 3)
unfolding points
loop_vertices = (refl, refl, refl, refl)

-- a benchmark between other points takes no number from them
loop_vertices_of_two : (vertex_of loop ((b, pos 0) ∷ (z, pos 0) ∷ []) a ≡ 1) × (vertex_of loop ((b, pos 0) ∷ (z, pos 0) ∷ []) b ≡ 0) × (vertex_of loop ((b, pos 0) ∷ (z, pos 0) ∷ []) c ≡ 2) × (vertex_of loop ((b, pos 0) ∷ (z, pos 0) ∷ []) z ≡ 0) × (vertex_count loop ((b, pos 0) ∷ (z, pos 0) ∷ []) ≡ 3)
unfolding points
loop_vertices_of_two = (refl, refl, refl, refl, refl)

-- with no points at all there is the vertex of the benchmarks alone
no_vertices : vertex_count [] [] ≡ 1
unfolding points
no_vertices = refl

-- the second observation runs between points that are no benchmark, the third back to the benchmark
loop_links : (link_of loop at_hundred (seen b c (pos 100000000) 4) ≡ record { tail = 1; head = 2; diff = pos 100000000 }) × (link_of loop at_hundred (seen c a (neg_ℤ (pos 200000000)) 6) ≡ record { tail = 2; head = 0; diff = neg_ℤ (pos 10200000000) })
unfolding points
loop_links = (refl, refl)
