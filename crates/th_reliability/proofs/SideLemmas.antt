-- The names whose vertices a side separates from vertex 0: a free set that crosses what the side does.
use Rattle.std.proofs.Common.{◌≡◌, ℕ, Bool, true, false, List, [], ◌∷◌, if◌then◌else◌, refl, ap, arith}
use Rattle.std.proofs.lemmas.List.Sums.{sum_by-cons}
use Rattle.th_observations.specs.Observed.{Observed}
use Rattle.th_network.specs.Networks.{Survey}
use Rattle.th_cuts.specs.Cuts.{Weighted}
use Rattle.th_cuts.specs.CutWeights.{crosses as edge_crosses, cut_weight, separates}
use Rattle.th_cuts.specs.declared.edges.Edge.{Edge}
use Rattle.th_cuts.proofs.CutTreeLemmas.{apart_itself}
use Rattle.th_reliability.specs.Cuts.{IsFreeSet, crosses, cut, differ}
use Rattle.th_reliability.specs.Edges.{edge_of}
use Rattle.th_reliability.specs.Inside.Graphs.{IsGraphOf}
use Rattle.th_reliability.specs.Inside.Sides.{names_beyond}
use Rattle.th_reliability.specs.Inside.Targets.{vertex}
use Rattle.th_reliability.proofs.VertexLemmas.{names_are_free, names_cut}

twice_apart : (a b z : Bool) → differ (if a then (if z then false else true) else z) (if b then (if z then false else true) else z) ≡ (if a then (if b then false else true) else b)
twice_apart true true true = refl
twice_apart true true false = refl
twice_apart true false true = refl
twice_apart true false false = refl
twice_apart false true true = refl
twice_apart false true false = refl
twice_apart false false true = refl
twice_apart false false false = refl

-- it crosses what the side does
pub beyond_crosses : (survey : Survey) (side : ℕ → Bool) (o : Observed) → crosses (names_beyond survey side) o ≡ edge_crosses side (edge_of survey.observations survey.benchmarks survey.weights o)
beyond_crosses survey side o = twice_apart (side (vertex survey o.station)) (side (vertex survey o.target)) (side 0)

pub beyond_free : (survey : Survey) (side : ℕ → Bool) → IsFreeSet survey.benchmarks (names_beyond survey side)
beyond_free survey side = names_are_free survey.observations survey.benchmarks (λ v. separates side v 0) (apart_itself (side 0))

apart_apart : (a b z : Bool) → (if (if a then (if z then false else true) else z) then (if (if b then (if z then false else true) else z) then false else true) else (if b then (if z then false else true) else z)) ≡ (if a then (if b then false else true) else b)
apart_apart true true true = refl
apart_apart true true false = refl
apart_apart true false true = refl
apart_apart true false false = refl
apart_apart false true true = refl
apart_apart false true false = refl
apart_apart false false true = refl
apart_apart false false false = refl

edges_cut : (side : ℕ → Bool) (edges : List Edge) → cut_weight (λ v. separates side v 0) edges ≡ cut_weight side edges
edges_cut side [] = refl
edges_cut side (edge ∷ edges) =
    let rest = edges_cut side edges in
    let one = ap (λ (b : Bool). if b then edge.weight else 0) (apart_apart (side edge.tail) (side edge.head) (side 0)) in
    let left = sum_by-cons (λ (e : Edge). if edge_crosses (λ v. separates side v 0) e then e.weight else 0) edge edges in
    let right = sum_by-cons (λ (e : Edge). if edge_crosses side e then e.weight else 0) edge edges in
    omega arith

-- so it has the cut of the side
pub beyond_cut : (survey : Survey) (graph : Weighted) (side : ℕ → Bool) → IsGraphOf survey graph → cut survey.observations survey.weights (names_beyond survey side) ≡ cut_weight side graph.edges
beyond_cut survey graph side is =
    let names = names_cut survey.observations survey.benchmarks survey.weights (λ v. separates side v 0) in
    let same = edges_cut side graph.edges in
    let all = is.cuts (λ v. separates side v 0) in
    omega arith
