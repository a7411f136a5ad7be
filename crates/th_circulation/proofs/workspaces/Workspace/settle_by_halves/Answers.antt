use Rattle.std.proofs.Common.{◌≡◌, ◌+◌, ◌-◌, ◌≤◌, ◌<◌, ◌*◌, ℕ, ℤ, pos, ◌+ℤ◌, ◌≤ℤ◌, List, length, replicate, sum, suc, refl, ap, sym, ◌∙◌, subst, arith}
use Rattle.th_circulation.specs.Limits.{phases}
use Rattle.th_search.specs.Potentials.{value_at}
use Rattle.th_network.specs.declared.links.Link.{Link}
use Rattle.th_circulation.specs.Inside.Flows.{IsFlow, ShowsLinks, gain, residuals}
use Rattle.th_circulation.specs.Inside.Graphs.{IsLinkGraph}
use Rattle.th_circulation.specs.Inside.Phases.{differences_in}
use Rattle.th_circulation.specs.Inside.Workspaces.{AreShownFor, IsNear}
use Rattle.th_circulation.proofs.PhaseStarts.{few_more, first_rise, next_near, none_near_replicate, phases_more, phases_most, weights_small}
use Rattle.th_circulation.proofs.workspaces.Workspace.settle_by_halves.Goals as goal

pub settle_phase-requires-clause-calls : goal.settle_phase-requires-clause-calls
settle_phase-requires-clause-calls g c =
    let graph = c.args.graph.now in
    let w = sum graph.weights.now in
    let small = weights_small graph.vertices graph.links.now graph.weights.now graph.graph in
    let most = phases_most w c.phases.done (omega arith) in
    omega arith

pub settle_phase-requires-clause-steps : goal.settle_phase-requires-clause-steps
settle_phase-requires-clause-steps g c =
    let graph = c.args.graph.now in
    let w = sum graph.weights.now in
    let small = weights_small graph.vertices graph.links.now graph.weights.now graph.graph in
    let most = phases_most w c.phases.done (omega arith) in
    omega arith

-- by how much the first phase raises the steps
first : (vertices : ℕ) (links : List Link) (weights : List ℕ) (flows flows' new diffs : List ℤ) (done now next : ℕ) → IsLinkGraph vertices links weights → diffs ≡ differences_in (phases - 1 - done) links → flows' ≡ flows → (done ≡ 0 → flows ≡ replicate (length links) (pos 0)) → IsFlow links weights new → (gain flows' diffs +ℤ pos (next - now)) ≤ℤ gain new diffs → now ≤ next → done ≡ 0 → next ≤ now + sum weights
first vertices links weights flows flows' new diffs done now next graph is kept none flow gained more e =
    let rise = first_rise vertices links weights flows' new diffs (next - now) graph (is ∙ ap (λ (k : ℕ). differences_in (phases - 1 - k) links) e) (kept ∙ none e) flow gained in
    omega arith

-- how many steps there are after one phase more
few_after : (vertices : ℕ) (links : List Link) (weights : List ℕ) (flows flows' new diffs : List ℤ) (done start now next : ℕ) → IsLinkGraph vertices links weights → diffs ≡ differences_in (phases - 1 - done) links → flows' ≡ flows → (done ≡ 0 → flows ≡ replicate (length links) (pos 0)) → IsFlow links weights new → (gain flows' diffs +ℤ pos (next - now)) ≤ℤ gain new diffs → now ≤ next → next ≤ now + 2 * sum weights → now ≤ start + 2 * sum weights * done → (0 < done → now + sum weights ≤ start + 2 * sum weights * done) → next + sum weights ≤ start + 2 * sum weights * (done + 1)
few_after vertices links weights flows flows' new diffs done start now next graph is kept none flow gained more rise few fewer =
    few_more (sum weights) done start now next few more rise (first vertices links weights flows flows' new diffs done now next graph is kept none flow gained more) fewer

pub returns-in_err-settle_phase-clause-few : goal.returns-in_err-settle_phase-clause-few
returns-in_err-settle_phase-clause-few g c =
    let graph = c.args.graph.now in
    let w = sum graph.weights.now in
    let i = c.phases.invariant in
    let e = c.settle_phase.ensures in
    let more = few_after graph.vertices graph.links.now graph.weights.now c.phases.self.state.flows.items c.start_phase.new.self.state.flows.items c.settle_phase.new.self.state.flows.items c.start_phase.new.self.state.differences.items c.phases.done c.args.steps.now c.phases.steps c.settle_phase.new.steps graph.graph c.start_phase.ensures.differences c.start_phase.ensures.flows i.none e.goes_on.flow e.goes_on.gained e.counts.more_steps e.few i.few i.fewer in
    let most = phases_most w (c.phases.done + 1) (omega arith) in
    omega arith

pub phases-init : goal.phases-init
phases-init g c =
    let graph = c.args.graph.now in
    let links = graph.links.now in
    let weights = graph.weights.now in
    record {
      rested = c.requires.rested;
      near = λ less. subst (IsNear links weights (differences_in (phases - 1) links)) (sym c.requires.none) (none_near_replicate graph.vertices links weights graph.graph);
      none = λ e. c.requires.none;
      shown = λ some. absurd (omega arith);
      more = omega arith;
      few = omega arith;
      fewer = λ some. absurd (omega arith);
      calls = omega arith;
      refusals = refl;
      cycles = refl;
    }

pub phases-preserved : goal.phases-preserved
phases-preserved g c =
    let graph = c.args.graph.now in
    let links = graph.links.now in
    let weights = graph.weights.now in
    let done = c.phases.done in
    let w = sum weights in
    let i = c.phases.invariant in
    let e = c.settle_phase.ensures in
    let more = phases_more w done in
    let rise = e.few in
    let kept = ap (λ (ds : List ℤ). length ds) e.goes_on.differences in
    let long = c.start_phase.ensures.ready.differences.each in
    let after = few_after graph.vertices links weights c.phases.self.state.flows.items c.start_phase.new.self.state.flows.items c.settle_phase.new.self.state.flows.items c.start_phase.new.self.state.differences.items done c.args.steps.now c.phases.steps c.settle_phase.new.steps graph.graph c.start_phase.ensures.differences c.start_phase.ensures.flows i.none e.goes_on.flow e.goes_on.gained e.counts.more_steps e.few i.few i.fewer in
    let Shown : List ℤ → Type 0 = λ ds. AreShownFor graph ds c.settle_phase.new.self (g.S.Search.asked c.settle_phase.new.search) in
    let shown : Shown (differences_in (phases - 1 - done) links) = subst Shown c.start_phase.ensures.differences c.in_ok-settle_phase.ensures.shown in
    let calls = c.in_ok-settle_phase.ensures.counts.all_calls in
    let cycles = e.counts.one_step_each in
    let refused = c.in_ok-settle_phase.ensures.counts.refused in
    let later = e.counts.more_steps in
    record {
      rested = record {
        differences = omega arith;
        heights = shown.heights;
        flow = e.goes_on.flow;
        fits = e.goes_on.fits;
      };
      near = λ less. let earlier : phases - 1 - done ≡ suc (phases - 1 - (done + 1)) = omega arith in next_near links weights c.settle_phase.new.self.state.flows.items (value_at c.settle_phase.new.self.state.heights.items) (phases - 1 - (done + 1)) e.goes_on.flow (subst (λ (k : ℕ). ShowsLinks weights c.settle_phase.new.self.state.flows.items (residuals links (differences_in k links) (value_at c.settle_phase.new.self.state.heights.items))) earlier shown.shown);
      none = λ e. absurd (omega arith);
      shown = λ some. let same : phases - 1 - done ≡ phases - (done + 1) = omega arith in subst (λ (k : ℕ). Shown (differences_in k links)) same shown;
      more = omega arith;
      few = omega arith;
      fewer = λ some. after;
      calls = omega arith;
      refusals = omega arith;
      cycles = omega arith;
    }
