-- Sets of names and sets of vertices: each set of vertices without vertex 0 is a free set of names with the same cut, and the other way round.
use Rattle.std.proofs.Common.{◌≡◌, ℕ, ◌&&◌, Bool, true, false, ℤ, List, [], ◌∷◌, get_or, slice_get, map, Option, Some, None, IsSome, All, Contains, eqb, if◌then◌else◌, refl, sym, ap, ◌∙◌, subst, arith}
use Rattle.std.proofs.lemmas.Bool.{eq-eqb, eqb-true, false≢true}
use Rattle.std.proofs.lemmas.List.Elements.{All-head, All-tail}
use Rattle.std.specs.List.{list_any}
use Rattle.std.proofs.lemmas.List.Folds.{list_any_at, list_any_none}
use Rattle.std.proofs.lemmas.List.Sums.{sum_by-cons}
use Rattle.std.proofs.lemmas.Option.{slice_get-get_or}
use Rattle.th_observations.specs.Observed.{Observed}
use Rattle.th_tables.specs.Rows.{BenchmarkRows, WeightRows, height_of, weight_of}
use Rattle.th_points.specs.Points.{points}
use Rattle.th_points.proofs.PlaceLemmas.{ends_contained}
use Rattle.th_network.specs.Vertices.{vertex_of}
use Rattle.th_network.proofs.NetworkLemmas.{vertices_apart}
use Rattle.th_network.proofs.FreePoints.{fixed_vertex as vertex_of_fixed, free_vertex}
use Rattle.th_cuts.specs.declared.edges.Edge.{Edge}
use Rattle.th_cuts.specs.CutWeights.{crosses as edge_crosses, cut_weight}
use Rattle.th_reliability.specs.Cuts.{IsFreeSet, crosses, cut, differ}
use Rattle.th_reliability.specs.Edges.{edge_of, edges_of, names_in, vertices_in}

-- a benchmark has vertex 0
pub fixed_vertex : (observations : List Observed) (benchmarks : BenchmarkRows) (name : List ℕ) → IsSome (height_of benchmarks name) → vertex_of observations benchmarks name ≡ 0
fixed_vertex observations benchmarks name fixed = by (height_of benchmarks name) refl fixed
  where
    by : (found : Option ℤ) → height_of benchmarks name ≡ found → IsSome found → vertex_of observations benchmarks name ≡ 0
    by None e some = absurd (false≢true some)
    by (Some height) e some = vertex_of_fixed observations benchmarks name height e

-- the names of vertices without vertex 0 are a free set
pub names_are_free : (observations : List Observed) (benchmarks : BenchmarkRows) (inside : ℕ → Bool) → inside 0 ≡ false → IsFreeSet benchmarks (names_in observations benchmarks inside)
names_are_free observations benchmarks inside out name fixed = ap inside (fixed_vertex observations benchmarks name fixed) ∙ out

-- a name of a free set is no benchmark
pub free_name : (benchmarks : BenchmarkRows) (inside : List ℕ → Bool) (name : List ℕ) → IsFreeSet benchmarks inside → inside name ≡ true → height_of benchmarks name ≡ None
free_name benchmarks inside name free here = by (height_of benchmarks name) refl (free name)
  where
    by : (found : Option ℤ) → height_of benchmarks name ≡ found → (IsSome (height_of benchmarks name) → inside name ≡ false) → height_of benchmarks name ≡ None
    by None e out = e
    by (Some height) e out = absurd (false≢true (sym (out (subst IsSome (sym e) refl)) ∙ here))

-- the vertices of a free set lack vertex 0
pub vertices_without_0 : (observations : List Observed) (benchmarks : BenchmarkRows) (inside : List ℕ → Bool) → IsFreeSet benchmarks inside → vertices_in observations benchmarks inside 0 ≡ false
vertices_without_0 observations benchmarks inside free =
    list_any_none (λ name. eqb (vertex_of observations benchmarks name) 0 && inside name) (points observations benchmarks) (λ k d within. each (get_or (points observations benchmarks) k d))
  where
    by : (name : List ℕ) (a b : Bool) → eqb (vertex_of observations benchmarks name) 0 ≡ a → inside name ≡ b → (a && b) ≡ false
    by name true true zero here =
        let none = eqb-true (vertex_of observations benchmarks name) 0 zero in
        let some = free_vertex observations benchmarks name (free_name benchmarks inside name free here) in
        absurd (omega arith)
    by name true false zero here = refl
    by name false b zero here = refl

    each : (name : List ℕ) → (eqb (vertex_of observations benchmarks name) 0 && inside name) ≡ false
    each name = by name (eqb (vertex_of observations benchmarks name) 0) (inside name) refl refl

-- the vertex of a point is among the vertices of a free set just where the point is in the set
pub vertices_at : (observations : List Observed) (benchmarks : BenchmarkRows) (inside : List ℕ → Bool) (name : List ℕ) → IsFreeSet benchmarks inside → Contains (points observations benchmarks) name → vertices_in observations benchmarks inside (vertex_of observations benchmarks name) ≡ inside name
vertices_at observations benchmarks inside name free (i, within, here) = by (inside name) refl
  where
    names : List (List ℕ)
    names = points observations benchmarks

    vertex : ℕ
    vertex = vertex_of observations benchmarks name

    test : List ℕ → Bool
    test other = eqb (vertex_of observations benchmarks other) vertex && inside other

    at : slice_get names i ≡ Some name
    at = slice_get-get_or names i name within ∙ ap Some here

    apart : (k : ℕ) (other : List ℕ) (a b : Bool) → inside name ≡ false → slice_get names k ≡ Some other → eqb (vertex_of observations benchmarks other) vertex ≡ a → inside other ≡ b → (a && b) ≡ false
    apart k other true true out there e f =
        let free_other = free_name benchmarks inside other free f in
        let same = eqb-true (vertex_of observations benchmarks other) vertex e in
        let some = free_vertex observations benchmarks other free_other in
        let free_here : height_of benchmarks name ≡ None = none (height_of benchmarks name) refl (λ fixed. let zero = fixed_vertex observations benchmarks name fixed in omega arith) in
        let is : other ≡ name = vertices_apart observations benchmarks k i other name there at free_other free_here same in
        absurd (false≢true (sym out ∙ ap inside (sym is) ∙ f))
      where
        none : (found : Option ℤ) → height_of benchmarks name ≡ found → ¬ IsSome (height_of benchmarks name) → height_of benchmarks name ≡ None
        none None e not = e
        none (Some height) e not = absurd (not (subst IsSome (sym e) refl))
    apart k other true false out there e f = refl
    apart k other false b out there e f = refl

    by : (b : Bool) → inside name ≡ b → list_any test names ≡ inside name
    by true e = list_any_at test names i name within (ap test here ∙ (let yes = eq-eqb vertex vertex refl in ap (λ (b : Bool). b && inside name) yes ∙ e)) ∙ sym e
    by false e = list_any_none test names (λ k d inner. apart k (get_or names k d) (eqb (vertex_of observations benchmarks (get_or names k d)) vertex) (inside (get_or names k d)) e (slice_get-get_or names k d inner) refl refl) ∙ sym e

-- the ends of an observation are inside just where their vertices are
pub record Agree (observations : List Observed) (benchmarks : BenchmarkRows) (names : List ℕ → Bool) (vertices : ℕ → Bool) (o : Observed) : Type 0 where
  pub station : vertices (vertex_of observations benchmarks o.station) ≡ names o.station
  pub target : vertices (vertex_of observations benchmarks o.target) ≡ names o.target

pub crossing_same : (a b : Bool) → (if a then (if b then false else true) else b) ≡ differ a b
crossing_same true true = refl
crossing_same true false = refl
crossing_same false b = refl

-- an observation crosses just where its edge does
pub crosses_same : (observations : List Observed) (benchmarks : BenchmarkRows) (weights : WeightRows) (names : List ℕ → Bool) (vertices : ℕ → Bool) (o : Observed) → Agree observations benchmarks names vertices o → edge_crosses vertices (edge_of observations benchmarks weights o) ≡ crosses names o
crosses_same observations benchmarks weights names vertices o h =
    crossing_same (vertices (vertex_of observations benchmarks o.station)) (vertices (vertex_of observations benchmarks o.target)) ∙ ap (λ (b : Bool). differ b (vertices (vertex_of observations benchmarks o.target))) h.station ∙ ap (differ (names o.station)) h.target

-- so both cut the same
pub cut_same : (all : List Observed) (benchmarks : BenchmarkRows) (weights : WeightRows) (names : List ℕ → Bool) (vertices : ℕ → Bool) (observations : List Observed) → All (Agree all benchmarks names vertices) observations → cut_weight vertices (map (edge_of all benchmarks weights) observations) ≡ cut observations weights names
cut_same all benchmarks weights names vertices [] h = refl
cut_same all benchmarks weights names vertices (o ∷ observations) h =
    let Same : Observed → Type 0 = Agree all benchmarks names vertices in
    let rest = cut_same all benchmarks weights names vertices observations (All-tail Same o observations h) in
    let first = ap (λ (b : Bool). if b then weight_of weights o.station o.target else 0) (crosses_same all benchmarks weights names vertices o (All-head Same o observations h)) in
    let left = sum_by-cons (λ (edge : Edge). if edge_crosses vertices edge then edge.weight else 0) (edge_of all benchmarks weights o) (map (edge_of all benchmarks weights) observations) in
    let right = sum_by-cons (λ (x : Observed). if crosses names x then weight_of weights x.station x.target else 0) o observations in
    omega arith

pub names_cut : (observations : List Observed) (benchmarks : BenchmarkRows) (weights : WeightRows) (inside : ℕ → Bool) → cut_weight inside (edges_of observations benchmarks weights) ≡ cut observations weights (names_in observations benchmarks inside)
names_cut observations benchmarks weights inside = cut_same observations benchmarks weights (names_in observations benchmarks inside) inside observations (λ k d within. record { station = refl; target = refl })

pub ends_agree : (observations : List Observed) (benchmarks : BenchmarkRows) (inside : List ℕ → Bool) → IsFreeSet benchmarks inside → All (Agree observations benchmarks inside (vertices_in observations benchmarks inside)) observations
ends_agree observations benchmarks inside free k d within =
    let ends = ends_contained observations benchmarks k d within in
    record {
      station = vertices_at observations benchmarks inside (get_or observations k d).station free ends.0;
      target = vertices_at observations benchmarks inside (get_or observations k d).target free ends.1;
    }

pub vertices_cut : (observations : List Observed) (benchmarks : BenchmarkRows) (weights : WeightRows) (inside : List ℕ → Bool) → IsFreeSet benchmarks inside → cut_weight (vertices_in observations benchmarks inside) (edges_of observations benchmarks weights) ≡ cut observations weights inside
vertices_cut observations benchmarks weights inside free = cut_same observations benchmarks weights inside (vertices_in observations benchmarks inside) observations (ends_agree observations benchmarks inside free)
