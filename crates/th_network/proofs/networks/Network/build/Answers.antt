use Rattle.std.proofs.Common.{◌≡◌, ◌≤◌, List, length, map, sym, ap, ◌∙◌, subst, arith}
use Rattle.th_observations.specs.Observed.{Observed}
use Rattle.th_tables.specs.Rows.{BenchmarkRows, weight_of}
use Rattle.th_points.specs.Points.{points}
use Rattle.th_network.specs.Inside.Linked.{AreLinks}
use Rattle.th_network.specs.Inside.Numbered.{AreVertices}
use Rattle.th_network.specs.Inside.Sites.{AreSites, Looked}
use Rattle.th_network.specs.Limits.{max_points}
use Rattle.th_network.specs.Networks.{IsBuilt, surveyed}
use Rattle.th_network.specs.declared.networks.Layout.{Layout}
use Rattle.th_network.proofs.NetworkLemmas.{point_vertices_are}
use Rattle.th_network.proofs.SiteLemmas.{anchored_if_none, heights_of_points, untied_if_some}
use Rattle.th_network.proofs.networks.Network.build.Goals as goal

-- what is looked up for a network
abbrev looked_for : List Observed → BenchmarkRows → Looked
looked_for observations benchmarks = record { observations = observations; benchmarks = benchmarks }

pub returns-in-Some-clause-fault : goal.returns-in-Some-clause-fault
returns-in-Some-clause-fault c = λ _.
    let own = looked_for c.args.observations.items c.args.benchmarks.now in
    let same : c.in_ok-sites.sites ≡ own = c.in_ok-sites.ensures ∙ ap (λ (os : List Observed). looked_for os c.args.benchmarks.now) c.deref.ensures.value in
    let few : length (points own.observations own.benchmarks) ≤ max_points = omega (arith, c.count.ensures, ap (λ (l : Looked). length (points l.observations l.benchmarks)) same) in
    (omega arith, few, untied_if_some _ own _ _ same c.in-Some.is c.in_ok-name.ensures)

pub invariant_of-result : goal.invariant_of-result
invariant_of-result c =
    let own = looked_for c.args.observations.items c.args.benchmarks.now in
    let same : c.in_ok-sites.sites ≡ own = c.in_ok-sites.ensures ∙ ap (λ (os : List Observed). looked_for os c.args.benchmarks.now) c.deref.ensures.value in
    let inside = c.sites.inside in
    let sited = subst (λ (l : Looked). AreSites l inside.points.names.keys inside.points.ends.items inside.heights.items) (c.sites.view_is ∙ same) c.sites.invariant in
    let numbered = subst (λ (l : Looked). AreVertices l.benchmarks (points l.observations l.benchmarks) c.in_ok-vertices.vertices.of_places.items c.in_ok-vertices.vertices.count) same c.in_ok-vertices.ensures in
    let linked = subst (λ (l : Looked). AreLinks l.observations l.benchmarks c.in_ok-arcs.arcs.items) same c.in_ok-arcs.ensures in
    let built : IsBuilt (surveyed own.observations c.args.benchmarks.now c.args.weights.now) inside.points.names.keys inside.heights.items inside.points.ends.items c.in_ok-listed.listed.items c.in_ok-vertices.vertices.of_places.items c.in_ok-vertices.vertices.count c.in_ok-arcs.arcs.items = record {
      network = record {
        few_observations = omega arith;
        few_points = omega (arith, c.count.ensures, ap (λ (l : Looked). length (points l.observations l.benchmarks)) same);
        anchored = anchored_if_none _ own _ same c.in_default.is c.in_ok-name.ensures;
      };
      between = linked.between;
      all_points = sited.are.all;
      fixed = heights_of_points own _ _ _ sited;
      low = sited.in_range;
      placed = sited.are.placed;
      weighed = c.in_ok-listed.ensures.value ∙ ap (map (λ (o : Observed). weight_of c.args.weights.now o.station o.target)) c.deref-2.ensures.value;
      light = c.in_ok-listed.ensures.in_range;
      numbered = point_vertices_are own.observations own.benchmarks c.in_ok-vertices.vertices.of_places.items c.in_ok-vertices.vertices.count numbered;
      vertices = numbered.all;
      links = linked.all;
      in_range = linked.in_range;
    } in
    subst (λ (it : Layout). IsBuilt (surveyed own.observations c.args.benchmarks.now c.args.weights.now) it.points.keys it.heights.items it.ends.items c.in_ok-listed.listed.items it.point_vertices.items it.vertices c.in_ok-arcs.arcs.items) (sym c.in_ok-layout.ensures) built

pub returns-clause-network : goal.returns-clause-network
returns-clause-network c =
    let own = looked_for c.args.observations.items c.args.benchmarks.now in
    let same : c.in_ok-sites.sites ≡ own = c.in_ok-sites.ensures ∙ ap (λ (os : List Observed). looked_for os c.args.benchmarks.now) c.deref.ensures.value in
    record {
      few_observations = omega arith;
      few_points = omega (arith, c.count.ensures, ap (λ (l : Looked). length (points l.observations l.benchmarks)) same);
      anchored = anchored_if_none _ own _ same c.in_default.is c.in_ok-name.ensures;
    }
