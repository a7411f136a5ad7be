use Rattle.std.proofs.Common.{ℤ, List, length, ap, pos, sym, ◌∙◌, subst}
use Rattle.std.proofs.lemmas.List.{length-replicate}
use Rattle.th_circulation.specs.Inside.Flows.{IsFlow}
use Rattle.th_circulation.specs.Inside.Bounds.{raised_bound}
use Rattle.th_search.specs.Distances.{AreWithin}
use Rattle.th_circulation.proofs.HeightLemmas.{none_within}
use Rattle.th_circulation.proofs.PhaseStarts.{none_flows}
use Rattle.th_circulation.proofs.workspaces.Workspace.new.Goals as goal

pub returns : goal.returns
returns c =
    let graph = c.args.graph.now in
    let differences = c.in_ok-differences.ensures.items_if_clones_equal (λ y e. e) in
    record {
      rested = record {
        differences = ap (λ (ds : List ℤ). length ds) differences ∙ length-replicate (length graph.links.now) (pos 0);
        heights = subst (AreWithin graph.vertices raised_bound) (sym (c.in_ok-heights.ensures.items_if_clones_equal (λ y e. e))) (none_within graph.vertices raised_bound);
        flow = subst (IsFlow graph.links.now graph.weights.now) (sym (c.in_ok-flows.ensures.items_if_clones_equal (λ y e. e))) (none_flows graph.links.now graph.weights.now graph.graph.sized);
        fits = record { arcs = c.in_ok-listing.ensures.room.0; slots = c.in_ok-listing.ensures.room.1 };
      };
    }
