use Rattle.std.proofs.Common.{◌≡◌, ℕ, List, refl, sym, ◌∙◌, subst}
use Rattle.th_observations.specs.Observed.{Observed}
use Rattle.th_network.specs.Inside.Linked.{AreLinks}
use Rattle.th_network.specs.Networks.{HaveSameEnds, IsBuilt, Survey, surveyed}
use Rattle.th_network.specs.declared.networks.Layout.{Layout}
use Rattle.th_network.proofs.EndLemmas.{built_too}
use Rattle.th_network.proofs.networks.Network.with_differences.Goals as goal

pub invariant_of-result : goal.invariant_of-result
invariant_of-result c =
    let own = c.self.inside.layout.value in
    let observations = c.self.inside.observations.items in
    let others = c.args.observations.items in
    let benchmarks = c.self.inside.benchmarks.now in
    let weights = c.self.inside.weight_table.now in
    let same : HaveSameEnds observations others = subst (λ (s : Survey). HaveSameEnds s.observations others) (sym c.self.view_is) c.requires in
    let linked : AreLinks others benchmarks c.in_ok-arcs.arcs.items =
    subst (λ (s : Survey). AreLinks others s.benchmarks c.in_ok-arcs.arcs.items) (sym c.self.view_is)
    (subst (λ (os : List Observed). AreLinks os c.args.self.now.benchmarks c.in_ok-arcs.arcs.items) c.deref-2.ensures.value c.in_ok-arcs.ensures) in
    let listed : c.in_ok-weights.weights.items ≡ c.self.inside.weights.items = c.in_ok-weights.ensures.items ∙ c.deref.ensures.value in
    let copied : c.in_ok-layout.layout.value ≡ own = c.in_ok-layout.ensures.cases in
    let old : Survey = surveyed observations benchmarks weights in
    let new : Survey = surveyed others benchmarks weights in
    let built = built_too old new own.points.keys own.heights.items own.ends.items c.self.inside.weights.items own.point_vertices.items own.vertices c.self.inside.arcs.items c.in_ok-arcs.arcs.items same refl refl c.self.invariant linked in
    subst (λ (it : Layout). IsBuilt new it.points.keys it.heights.items it.ends.items c.in_ok-weights.weights.items it.point_vertices.items it.vertices c.in_ok-arcs.arcs.items) (sym copied)
    (subst (λ (ws : List ℕ). IsBuilt new own.points.keys own.heights.items own.ends.items ws own.point_vertices.items own.vertices c.in_ok-arcs.arcs.items) (sym listed) built)
