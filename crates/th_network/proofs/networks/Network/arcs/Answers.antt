use Rattle.std.proofs.Common.{map, ap, ◌∙◌}
use Rattle.th_network.specs.Networks.{Survey}
use Rattle.th_network.specs.Links.{link_of}
use Rattle.th_network.proofs.NetworkLemmas.{arcs_within}
use Rattle.th_network.proofs.networks.Network.arcs.Goals as goal

pub returns-clause-ends : goal.returns-clause-ends
returns-clause-ends c =
    arcs_within _ _ _ (c.deref.ensures.value ∙ c.self.invariant.links ∙ ap (λ (s : Survey). map (link_of s.observations s.benchmarks) s.observations) c.self.view_is)
