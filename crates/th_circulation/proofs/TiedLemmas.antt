-- The residual arcs of a circulation lead from vertex 0 to each vertex, and back.
use Rattle.std.proofs.Common.{◌≡◌, ℕ, zero, suc, Bool, true, false, ◌<◌, ◌≤◌, ℤ, pos, ◌+ℤ◌, ◌-ℤ◌, List, [], ◌∷◌, Option, Some, None, IsSome, All, bytes_eq, if◌then◌else◌, map, unsigned_abs, zip, refl, ap, sym, ◌∙◌, subst, arith}
use Rattle.std.proofs.lemmas.Int.{ints}
use Rattle.std.proofs.lemmas.List.Elements.{recursion_from_All}
use Rattle.std.proofs.lemmas.List.Sums.{count_by-le-length}
use Rattle.std.proofs.lemmas.Option.{get_or_from_slice_get, slice_get_within}
use Rattle.std.specs.List.{AllZip, AllByRecursion}
use Rattle.th_observations.specs.Observed.{Observed}
use Rattle.th_tables.specs.Rows.{BenchmarkRows, WeightRows, height_of, weight_of}
use Rattle.th_network.specs.Circulation.{Circulation, total_by}
use Rattle.th_network.specs.Faults.{IsNetwork}
use Rattle.th_network.specs.Networks.{Survey, arcs_of, vertices_of, weights_of}
use Rattle.th_points.specs.Points.{points}
use Rattle.th_network.specs.Vertices.{is_free}
use Rattle.th_network.specs.Walks.{Anchored, IsTied}
use Rattle.th_network.proofs.Balance.{total_by-cons}
use Rattle.th_search.specs.declared.arcs.Arc.{Arc}
use Rattle.th_search.specs.Walks.{IsArc}
use Rattle.th_circulation.specs.Inside.Cuts.{LeavesFull}
use Rattle.th_circulation.specs.Inside.Residuals.{residual_arcs}
use Rattle.th_circulation.proofs.CutLemmas.{AreHeavy, untied_where_full}
use Rattle.th_network.proofs.FreePoints.{fixed_vertex}
use Rattle.th_circulation.proofs.NearLemmas.{AreTied}
use Rattle.th_circulation.proofs.ResidualLemmas.{entered_full, inside_at, left_full, opposites}
use Rattle.th_circulation.proofs.VertexNumbers.{named}

-- ---- the flows with the other sign are a circulation too
picked_opposite : (b : Bool) (flow sum rest : ℤ) → sum ≡ pos 0 -ℤ rest → (if b then (pos 0 -ℤ flow) else pos 0) +ℤ sum ≡ pos 0 -ℤ ((if b then flow else pos 0) +ℤ rest)
picked_opposite true flow sum rest e = omega (arith, ints)
picked_opposite false flow sum rest e = omega (arith, ints)

total_opposite : (pick : Observed → Bool) (observations : List Observed) (flows : List ℤ) → total_by (λ (pair : Observed × ℤ). if pick pair.0 then pair.1 else pos 0) (zip observations (opposites flows)) ≡ pos 0 -ℤ total_by (λ (pair : Observed × ℤ). if pick pair.0 then pair.1 else pos 0) (zip observations flows)
total_opposite pick [] flows = refl
total_opposite pick (o ∷ observations) [] = refl
total_opposite pick (o ∷ observations) (flow ∷ flows) =
    let f : Observed × ℤ → ℤ = λ pair. if pick pair.0 then pair.1 else pos 0 in
    let rest = total_opposite pick observations flows in
    let a = total_by-cons f (o, pos 0 -ℤ flow) (zip observations (opposites flows)) in
    let b = total_by-cons f (o, flow) (zip observations flows) in
    a ∙ picked_opposite (pick o) flow (total_by f (zip observations (opposites flows))) (total_by f (zip observations flows)) rest ∙ ap (λ z. pos 0 -ℤ z) (sym b)

bounded_opposite : (weights : WeightRows) (observations : List Observed) (flows : List ℤ) → AllZip (λ o flow. unsigned_abs flow ≤ weight_of weights o.station o.target) observations flows → AllZip (λ o flow. unsigned_abs flow ≤ weight_of weights o.station o.target) observations (opposites flows)
bounded_opposite weights [] [] bounded = tt
bounded_opposite weights [] (flow ∷ flows) bounded = absurd bounded
bounded_opposite weights (o ∷ observations) [] bounded = absurd bounded
bounded_opposite weights (o ∷ observations) (flow ∷ flows) bounded =
    let one = bounded.0 in
    (omega (arith, ints), bounded_opposite weights observations flows bounded.1)

opposite_circulates : (observations : List Observed) (benchmarks : BenchmarkRows) (weights : WeightRows) (flows : List ℤ) → Circulation observations benchmarks weights flows → Circulation observations benchmarks weights (opposites flows)
opposite_circulates observations benchmarks weights flows circulation = record {
  bounded = bounded_opposite weights observations flows circulation.bounded;
  balanced = λ k d within free.
      let same = circulation.balanced k d within free in
      total_opposite (λ o. bytes_eq o.target _) observations flows ∙ ap (λ z. pos 0 -ℤ z) same ∙ sym (total_opposite (λ o. bytes_eq o.station _) observations flows);
}

-- ---- no set without vertex 0 is cut off
fixed_outside : (survey : Survey) (inside : ℕ → Bool) → inside 0 ≡ false → (name : List ℕ) → IsSome (height_of survey.benchmarks name) → inside_at survey.observations survey.benchmarks inside name ≡ false
fixed_outside survey inside outside name some = by (height_of survey.benchmarks name) refl some
  where
    by : (found : Option ℤ) → height_of survey.benchmarks name ≡ found → IsSome found → inside_at survey.observations survey.benchmarks inside name ≡ false
    by None e some = absurd (grind arith)
    by (Some height) e some = ap inside (fixed_vertex survey.observations survey.benchmarks name height e) ∙ outside

none_inside : (survey : Survey) (flows : List ℤ) (inside : ℕ → Bool) → AreHeavy survey.weights survey.observations → Anchored survey.observations survey.benchmarks → Circulation survey.observations survey.benchmarks survey.weights flows → inside 0 ≡ false → AllZip (LeavesFull (inside_at survey.observations survey.benchmarks inside) survey.weights) survey.observations flows → (v : ℕ) → v < vertices_of survey → inside v ≡ false
none_inside survey flows inside heavy anchored circulation outside full v within = by v (inside v) refl within
  where
    by : (v : ℕ) (b : Bool) → inside v ≡ b → v < vertices_of survey → b ≡ false
    by v false e within = refl
    by zero true e within = absurd (grind arith)
    by (suc v) true e within =
        let names = points survey.observations survey.benchmarks in
        let point = named survey.observations survey.benchmarks (suc v) (omega arith) within in
        let tied = subst (IsTied survey.observations survey.benchmarks) (get_or_from_slice_get names point.place point.name [] point.at) (anchored point.place [] (slice_get_within names point.place point.name point.at)) in
        absurd (untied_where_full survey.observations survey.benchmarks survey.weights flows (inside_at survey.observations survey.benchmarks inside) heavy circulation (fixed_outside survey inside outside) full point.name (ap inside point.vertex ∙ e) tied)

-- the residual arcs of flows of a survey
abbrev pub arcs_in : Survey → List ℤ → List Arc
arcs_in survey flows = residual_arcs (arcs_of survey) (weights_of survey) flows

-- the arcs of a circulation are tied to vertex 0 both ways
pub circulation_ties : (survey : Survey) (flows : List ℤ) → IsNetwork survey.observations survey.benchmarks → AreHeavy survey.weights survey.observations → Circulation survey.observations survey.benchmarks survey.weights flows → All (IsArc (vertices_of survey)) (arcs_in survey flows) → AreTied (vertices_of survey) (arcs_in survey flows)
circulation_ties survey flows network heavy circulation ends =
    let points_few = network.few_points in
    let free_few = count_by-le-length (is_free survey.benchmarks) (points survey.observations survey.benchmarks) in
    record {
      some = omega arith;
      few = omega arith;
      ends = recursion_from_All (IsArc (vertices_of survey)) (arcs_in survey flows) ends;
      out = λ inside outside closed. none_inside survey (opposites flows) inside heavy network.anchored (opposite_circulates survey.observations survey.benchmarks survey.weights flows circulation) outside (entered_full survey.observations survey.benchmarks survey.weights inside survey.observations flows circulation.bounded closed);
      back = λ inside outside closed. none_inside survey flows inside heavy network.anchored circulation outside (left_full survey.observations survey.benchmarks survey.weights inside survey.observations flows circulation.bounded closed);
    }

-- each weight is that of an observation
heavy_observations : (weights : WeightRows) (observations : List Observed) → AllByRecursion (λ weight. 1 ≤ weight) (map (λ o. weight_of weights o.station o.target) observations) → AreHeavy weights observations
heavy_observations weights [] heavy = tt
heavy_observations weights (o ∷ observations) heavy = (heavy.0, heavy_observations weights observations heavy.1)

pub all_observations_heavy : (survey : Survey) → All (λ weight. 1 ≤ weight) (weights_of survey) → AreHeavy survey.weights survey.observations
all_observations_heavy survey heavy = heavy_observations survey.weights survey.observations (recursion_from_All (λ weight. 1 ≤ weight) (weights_of survey) heavy)
