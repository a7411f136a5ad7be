use Rattle.std.proofs.Common.{ℤ, List, map, ap, sym, ◌∙◌, subst}
use Rattle.th_network.specs.Networks.{at_points_of, points_of, vertices_of}
use Rattle.th_circulation.specs.Inside.Residuals.{turned}
use Rattle.th_search.specs.declared.arcs.Arc.{Arc}
use Rattle.th_search.specs.Distances.{AreDistances, AreTight}
use Rattle.th_search.specs.Potentials.{value_at}
use Rattle.th_names.specs.Inside.Rooted.{rise_by, root_of, rooted_arcs}
use Rattle.th_names.specs.declared.roots.Root.{Root}
use Rattle.th_names.specs.declared.roots.Way.TheVariants.{Down, Up}
use Rattle.th_names.proofs.RiseLemmas.{best_shown, rises_listed, searched}
use Rattle.th_names.proofs.rises.rises_from.Goals as goal

pub distances-requires : goal.distances-requires
distances-requires c =
    let survey = c.args.network.now in
    let best = c.args.best.now in
    let root = c.root_at-root.result.vertex in
    let both = searched survey best root c.arcs-links.result.now c.weights-weights.result.now c.requires.best c.points-points.ensures.network c.root_at-root.ensures.within c.arcs-links.ensures.arcs c.arcs-links.ensures.ends c.arcs-links.ensures.in_range c.weights-weights.ensures.weights c.weights-weights.ensures.in_range in
    let arcs = c.deref-2.ensures.value ∙ c.in_ok-arcs.ensures ∙ ap (λ (flows : List ℤ). rooted_arcs survey flows root) c.flows.ensures in
    subst (λ n. AreTight n c.deref-2.result.now) (sym c.vertices.ensures.vertices) (subst (AreTight (vertices_of survey)) (sym arcs) both.0)

pub distances-requires-2 : goal.distances-requires-2
distances-requires-2 c =
    let survey = c.args.network.now in
    let best = c.args.best.now in
    let root = c.root_at-root.result.vertex in
    let both = searched survey best root c.arcs-links.result.now c.weights-weights.result.now c.requires.best c.points-points.ensures.network c.root_at-root.ensures.within c.arcs-links.ensures.arcs c.arcs-links.ensures.ends c.arcs-links.ensures.in_range c.weights-weights.ensures.weights c.weights-weights.ensures.in_range in
    let arcs = c.deref.ensures.value ∙ c.in_ok-arcs.ensures ∙ ap (λ (flows : List ℤ). rooted_arcs survey flows root) c.flows.ensures in
    let back = c.deref-3.ensures.value ∙ c.in_ok-back.ensures ∙ ap (map turned) arcs in
    subst (λ n. AreTight n c.deref-3.result.now) (sym c.vertices-2.ensures.vertices) (subst (AreTight (vertices_of survey)) (sym back) both.1)

pub returns : goal.returns
returns c = record {
  rises = λ from at.
      let survey = c.args.network.now in
      let best = c.args.best.now in
      let root = c.root_at-root.ensures.root from at in
      let down = c.in_ok-down.down.items in
      let up = c.in_ok-up.up.items in
      let own = c.in_ok-arcs.ensures ∙ ap (λ (flows : List ℤ). rooted_arcs survey flows c.root_at-root.result.vertex) c.flows.ensures ∙ ap (λ (r : Root). rooted_arcs survey best.flows r.vertex) root in
      let forth = c.deref-2.ensures.value ∙ own in
      let back = c.deref-3.ensures.value ∙ c.in_ok-back.ensures ∙ ap (map turned) (c.deref.ensures.value ∙ own) in
      let downs = subst (λ n. AreDistances n c.deref-2.result.now down) c.vertices.ensures.vertices c.in_ok-down.ensures in
      let ups = subst (λ n. AreDistances n c.deref-3.result.now up) c.vertices-2.ensures.vertices c.in_ok-up.ensures in
      let low = c.in_ok-low.ensures ∙ ap (λ (distances : List ℤ). map (λ (name : List _). rise_by c.root_at-root.result Down (value_at distances) (root_of survey name)) (points_of survey)) c.deref-4.ensures.value ∙ ap (λ (r : Root). map (λ (name : List _). rise_by r Down (value_at down) (root_of survey name)) (points_of survey)) root in
      let high = c.in_ok-high.ensures ∙ ap (λ (distances : List ℤ). map (λ (name : List _). rise_by c.root_at-root.result Up (value_at distances) (root_of survey name)) (points_of survey)) c.deref-5.ensures.value ∙ ap (λ (r : Root). map (λ (name : List _). rise_by r Up (value_at up) (root_of survey name)) (points_of survey)) root in
      rises_listed survey best.flows (at_points_of survey best.low) from c.args.place down up c.in_ok-low.low.items c.in_ok-high.high.items (best_shown survey best c.requires.best) at (subst (λ (arcs : List Arc). AreDistances (vertices_of survey) arcs down) forth downs) (subst (λ (arcs : List Arc). AreDistances (vertices_of survey) arcs up) back ups) low high;
}
