-- What a mistake in one observation moves: the side of a least cut between its ends.
use Rattle.std.proofs.Common.{◌≡◌, ℕ, ◌≤◌, Bool, true, false, List, get_or, slice_get, Some, sym, ap, ◌∙◌, subst, arith}
use Rattle.std.proofs.lemmas.Bool.{false≢true}
use Rattle.std.proofs.lemmas.Option.{get_or_from_slice_get, slice_get_within}
use Rattle.th_observations.specs.Observed.{IsBetweenPoints, Observed}
use Rattle.th_tables.specs.Rows.{weight_of}
use Rattle.th_network.specs.Networks.{Survey}
use Rattle.th_cuts.specs.Cuts.{IsLeastSide, Weighted}
use Rattle.th_cuts.specs.CutWeights.{crosses as edge_crosses, separates}
use Rattle.th_cuts.specs.Drains.{on_side}
use Rattle.th_cuts.specs.Graphs.{edge_at}
use Rattle.th_cuts.specs.declared.edges.Edge.{Edge}
use Rattle.th_reliability.specs.Blames.{IsBlame}
use Rattle.th_reliability.specs.Cuts.{IsControl, crosses, differ}
use Rattle.th_reliability.specs.Edges.{edge_of, vertices_in}
use Rattle.th_reliability.specs.Effects.{HasOwnBlame, only_at}
use Rattle.th_reliability.specs.Inside.Graphs.{IsGraphOf}
use Rattle.th_reliability.specs.Inside.Sides.{names_beyond}
use Rattle.th_reliability.specs.Inside.Targets.{AreEdges, vertex}
use Rattle.th_reliability.specs.declared.blames.Blame.{Blame}
use Rattle.th_reliability.proofs.NumberLemmas.{control_none}
use Rattle.th_reliability.proofs.SideLemmas.{beyond_crosses, beyond_cut, beyond_free}
use Rattle.th_reliability.proofs.TargetLemmas.{edge_is}
use Rattle.th_reliability.proofs.VertexLemmas.{Agree, crosses_same, ends_agree, vertices_cut}

module _ (survey : Survey) (edges : List Edge) (are : AreEdges survey edges) (place : ℕ) (o : Observed) (at : slice_get survey.observations place ≡ Some o) where
  edge_here : edge_at edges place ≡ edge_of survey.observations survey.benchmarks survey.weights o
  edge_here =
      let within = slice_get_within survey.observations place o at in
      let here : get_or survey.observations place o ≡ o = get_or_from_slice_get survey.observations place o o at in
      edge_is survey edges are place o within (sym here)

  -- an observation with a control does not end where it began
  pub ends_apart : (control : ℕ) → IsBetweenPoints o → IsControl survey.observations survey.benchmarks survey.weights o control → (edge_at edges place).tail ≡ (edge_at edges place).head → ⊥
  ends_apart control between is_control same =
      let vertices : vertex survey o.station ≡ vertex survey o.target = ap (λ (e : Edge). e.tail) (sym edge_here) ∙ same ∙ ap (λ (e : Edge). e.head) edge_here in
      let fixed = control_none survey place o at between vertices in
      let inside = is_control.reached.0 in
      let station = is_control.reached.1 o.station fixed.0 in
      let target = is_control.reached.1 o.target fixed.1 in
      let level : crosses inside o ≡ false = ap (λ (s : Bool). differ s (inside o.target)) station ∙ ap (differ false) target in
      absurd (false≢true (sym level ∙ is_control.reached.2))

  -- the names beyond the side of a least cut between its ends are a set of its control
  pub own_is : (graph : Weighted) (control : ℕ) (side : List Bool) (blame : Blame) → IsGraphOf survey graph → IsControl survey.observations survey.benchmarks survey.weights o control → control ≤ (edge_at edges place).weight → IsLeastSide graph.edges (edge_at edges place).tail (edge_at edges place).head side → IsBlame survey (only_at survey place) (names_beyond survey (on_side side)) blame → HasOwnBlame survey place o (Some control) (Some blame)
  own_is graph control side blame is is_control light least blames =
      let inside = names_beyond survey (on_side side) in
      let weight : (edge_at edges place).weight ≡ weight_of survey.weights o.station o.target = ap (λ (e : Edge). e.weight) edge_here in
      let crossing : crosses inside o ≡ true = beyond_crosses survey (on_side side) o ∙ ap (edge_crosses (on_side side)) (sym edge_here) ∙ least.apart in
      let weighs = beyond_cut survey graph (on_side side) is in
      let low = is_control.least inside (beyond_free survey (on_side side)) crossing in
      let other = is_control.reached.0 in
      let free = is_control.reached.1 in
      let vertices = vertices_in survey.observations survey.benchmarks other in
      let within = slice_get_within survey.observations place o at in
      let here : get_or survey.observations place o ≡ o = get_or_from_slice_get survey.observations place o o at in
      let agree : Agree survey.observations survey.benchmarks other vertices o = subst (Agree survey.observations survey.benchmarks other vertices) here (ends_agree survey.observations survey.benchmarks other free place o within) in
      let apart : separates vertices (edge_at edges place).tail (edge_at edges place).head ≡ true = ap (edge_crosses vertices) edge_here ∙ crosses_same survey.observations survey.benchmarks survey.weights other vertices o agree ∙ is_control.reached.2 in
      let most = least.least vertices apart in
      let others = is.cuts vertices in
      let set = vertices_cut survey.observations survey.benchmarks survey.weights other free in
      let reached = is_control.reached.3 in
      (omega arith, (inside, beyond_free survey (on_side side), crossing, omega arith, blames))
