use Rattle.std.proofs.Common.{Some, ◌+◌, ap, sym, ◌∙◌, arith}
use Rattle.th_network.specs.Networks.{points_of}
use Rattle.th_network.proofs.FreePoints.{free_fixed, free_more, free_most}
use Rattle.th_reliability.proofs.NumberLemmas.{strength_none, strength_some}
use Rattle.th_reliability.proofs.strengths.strength_at.Goals as goal

pub overflow_add-vertex : goal.overflow_add-vertex
overflow_add-vertex c =
    let network = c.args.network.now in
    let more = free_more network.benchmarks (points_of network) c.args.place (c.fixed.ensures.height ∙ ap Some c.in-None.is) in
    let most = free_most network.observations network.benchmarks (c.args.place + 1) in
    let vertices = c.requires.graph.vertices in
    let few = c.requires.graph.few in
    omega arith

pub least-requires-clause-first : goal.least-requires-clause-first
least-requires-clause-first c =
    let network = c.args.network.now in
    let more = free_more network.benchmarks (points_of network) c.args.place (c.fixed.ensures.height ∙ ap Some c.in-None.is) in
    let most = free_most network.observations network.benchmarks (c.args.place + 1) in
    let vertices = c.requires.graph.vertices in
    omega arith

pub returns-in-Some-clause-strength : goal.returns-in-Some-clause-strength
returns-in-Some-clause-strength c = strength_none c.args.network.now c.args.place _ (c.fixed.ensures.height ∙ ap Some c.in-Some.is)

pub returns-in-Some-clause-last : goal.returns-in-Some-clause-last
returns-in-Some-clause-last c =
    let network = c.args.network.now in
    c.requires.before ∙ sym (free_fixed network.benchmarks (points_of network) c.args.place _ (c.fixed.ensures.height ∙ ap Some c.in-Some.is))

pub returns-in_ok-strength-in-None-clause-strength : goal.returns-in_ok-strength-in-None-clause-strength
returns-in_ok-strength-in-None-clause-strength c = strength_some c.args.network.now c.args.tree.now c.args.place c.args.before c.in_ok-strength-in-None.strength c.requires.graph (c.fixed.ensures.height ∙ ap Some c.in-None.is) c.requires.before c.in_ok-strength-in-None.ensures

pub returns-in_ok-strength-in-None-clause-last : goal.returns-in_ok-strength-in-None-clause-last
returns-in_ok-strength-in-None-clause-last c =
    let network = c.args.network.now in
    let more = free_more network.benchmarks (points_of network) c.args.place (c.fixed.ensures.height ∙ ap Some c.in-None.is) in
    omega arith
