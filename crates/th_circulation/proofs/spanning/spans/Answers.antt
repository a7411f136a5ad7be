use Rattle.std.proofs.Common.{ℤ, List, length, map, ap, sym, ◌∙◌, subst, arith}
use Rattle.std.proofs.lemmas.List.{length-map}
use Rattle.std.proofs.lemmas.Slice.Zip.{AllZip-long}
use Rattle.std.specs.Prelude.{◌≤◌, unsigned_abs}
use Rattle.th_observations.specs.Observed.{Observed}
use Rattle.th_tables.specs.Rows.{weight_of}
use Rattle.th_network.specs.Links.{link_of}
use Rattle.th_network.specs.Networks.{at_points_of, vertices_of}
use Rattle.th_search.specs.declared.arcs.Arc.{Arc}
use Rattle.th_search.specs.Distances.{AreTight}
use Rattle.th_circulation.specs.Inside.Residuals.{turned}
use Rattle.th_circulation.specs.Inside.Spans.{AreAbove, AreBelow}
use Rattle.th_circulation.proofs.BestLemmas.{best_is_shown}
use Rattle.th_circulation.proofs.SpanLemmas.{high_found, low_found, shown_tight}
use Rattle.th_circulation.proofs.TiedLemmas.{arcs_in}
use Rattle.th_circulation.proofs.spanning.spans.Goals as goal

pub residual_arcs-requires : goal.residual_arcs-requires
residual_arcs-requires c =
    let survey = c.args.network.now in
    let links = length-map survey.observations (link_of survey.observations survey.benchmarks) in
    let flows = AllZip-long (λ (o : Observed) (flow : ℤ). unsigned_abs flow ≤ weight_of survey.weights o.station o.target) survey.observations c.args.settled.now.flows.items c.requires.circulation.bounded in
    let same = ap (λ (xs : List ℤ). length xs) c.deref.ensures.value in
    omega arith

pub lowest-requires-clause-tight : goal.lowest-requires-clause-tight
lowest-requires-clause-tight c =
    let survey = c.args.network.now in
    let is = c.in_ok-arcs.ensures.arcs ∙ ap (arcs_in survey) c.deref.ensures.value in
    let both = shown_tight survey c.args.settled.now.flows.items (at_points_of survey c.args.settled.now.heights.items) c.in_ok-arcs.arcs.items c.points-points.ensures.network c.in_ok-arcs.ensures.heavy c.requires is c.in_ok-arcs.ensures.ends in
    subst (AreTight (vertices_of survey)) (sym c.deref-4.ensures.value) both.0

pub highest-requires-clause-tight : goal.highest-requires-clause-tight
highest-requires-clause-tight c =
    let survey = c.args.network.now in
    let is = c.in_ok-arcs.ensures.arcs ∙ ap (arcs_in survey) c.deref.ensures.value in
    let both = shown_tight survey c.args.settled.now.flows.items (at_points_of survey c.args.settled.now.heights.items) c.in_ok-arcs.arcs.items c.points-points.ensures.network c.in_ok-arcs.ensures.heavy c.requires is c.in_ok-arcs.ensures.ends in
    let back = c.deref-7.ensures.value ∙ c.in_ok-back.ensures ∙ ap (map turned) c.deref-2.ensures.value in
    subst (AreTight (vertices_of survey)) (sym back) both.1

pub returns : goal.returns
returns c =
    let survey = c.args.network.now in
    let heights = c.args.settled.now.heights.items in
    let flows = c.args.settled.now.flows.items in
    let arcs = c.in_ok-arcs.ensures.arcs ∙ ap (arcs_in survey) c.deref.ensures.value in
    let forth = c.deref-4.ensures.value ∙ arcs in
    let back = c.deref-7.ensures.value ∙ c.in_ok-back.ensures ∙ ap (map turned) (c.deref-2.ensures.value ∙ arcs) in
    let low = low_found survey flows (at_points_of survey heights) c.in_ok-low.low.items c.requires (subst (λ (arcs : List Arc). AreBelow survey arcs c.in_ok-low.low.items) forth c.in_ok-low.ensures) in
    let high = high_found survey flows (at_points_of survey heights) c.in_ok-high.high.items c.requires (subst (λ (arcs : List Arc). AreAbove survey arcs c.in_ok-high.high.items) back c.in_ok-high.ensures) in
    record {
      is_low = low;
      is_high = high;
      shows_low = best_is_shown survey.observations survey.benchmarks survey.weights (at_points_of survey heights) (at_points_of survey c.in_ok-low.low.items) flows c.requires.kept c.requires.circulation c.requires.shows low.best;
      shows_high = best_is_shown survey.observations survey.benchmarks survey.weights (at_points_of survey heights) (at_points_of survey c.in_ok-high.high.items) flows c.requires.kept c.requires.circulation c.requires.shows high.best;
      low_at_points = c.in_ok-low.ensures.points;
      high_at_points = c.in_ok-high.ensures.points;
    }
