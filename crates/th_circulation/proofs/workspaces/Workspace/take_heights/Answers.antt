use Rattle.std.proofs.Common.{◌≡◌, ℤ, List, length, ap, sym, ◌∙◌, subst, arith}
use Rattle.th_circulation.specs.Inside.Bounds.{height_bound}
use Rattle.th_circulation.specs.Inside.Phases.{differences_in}
use Rattle.th_search.specs.Distances.{AreWithin}
use Rattle.th_search.proofs.WithinLemmas.{written}
use Rattle.th_circulation.proofs.PhaseStarts.{differences_within}
use Rattle.th_network.specs.Links.{largest_link_difference}
use Rattle.th_circulation.proofs.workspaces.Workspace.take_heights.Goals as goal

pub returns-clause-differences : goal.returns-clause-differences
returns-clause-differences c =
    let lent = ap (λ (ds : List ℤ). length ds) c.deref_mut.ensures.value in
    let kept = c.set_differences.auto.differences in
    let long = c.deref_mut.ensures.len in
    written c.args.self.now.state.differences.len c.set_differences.new.differences c.args.self.now.state.differences.items (omega arith) (omega arith) ∙ c.set_differences.ensures

pub returns-clause-ready : goal.returns-clause-ready
returns-clause-ready c =
    let graph = c.args.graph.now in
    let lent = ap (λ (hs : List ℤ). length hs) c.deref_mut-2.ensures.value in
    let kept = c.take_given.auto.heights in
    let long = c.deref_mut-2.ensures.len in
    record {
      differences = subst (AreWithin (length graph.links.now) largest_link_difference) (sym (returns-clause-differences c)) (differences_within graph.links.now 0 graph.graph.near);
      heights = subst (AreWithin graph.vertices height_bound) (sym (written c.args.self.now.state.heights.len c.take_given.new.heights c.args.self.now.state.heights.items (omega arith) (omega arith))) c.take_given.ensures.within;
      flow = c.requires.rested.flow;
      fits = c.requires.rested.fits;
    }
