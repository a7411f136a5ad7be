use Rattle.std.proofs.Common.{◌≡◌, ◌≤◌, ℕ, ℤ, List, All, subst}
use Rattle.th_network.specs.Networks.{weights_of}
use Rattle.th_network.specs.declared.links.Link.{Link}
use Rattle.th_tables.specs.Limits.{max_weight}
use Rattle.th_circulation.specs.Inside.Flows.{IsFlow}
use Rattle.th_circulation.proofs.SettledLemmas.{settled_circulates, settled_flows}
use Rattle.th_circulation.proofs.flows.is_circulation.Goals as goal

pub returns-clause-each : goal.returns-clause-each
returns-clause-each c holds =
    let graph = c.of-graph in
    let survey = c.args.network.now in
    let flows : List ℤ = c.args.flows.now in
    let flow = c.in_ok-holds.ensures holds in
    let light = subst (All (λ (weight : ℕ). weight ≤ max_weight)) graph.ensures.weights graph.result.graph.light in
    settled_flows survey flows light (subst (λ (ls : List Link). IsFlow ls (weights_of survey) flows) graph.ensures.links (subst (λ (ws : List ℕ). IsFlow graph.result.links.now ws flows) graph.ensures.weights flow))

pub returns-clause-circulation : goal.returns-clause-circulation
returns-clause-circulation c holds =
    let graph = c.of-graph in
    settled_circulates c.args.network.now graph.result.links.now graph.result.weights.now c.args.flows.now graph.ensures.links graph.ensures.weights (c.in_ok-holds.ensures holds)
