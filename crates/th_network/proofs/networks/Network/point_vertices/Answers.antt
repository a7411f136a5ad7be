use Rattle.std.proofs.Common.{ap, ◌∙◌}
use Rattle.th_network.specs.Networks.{Survey, point_vertices_of}
use Rattle.th_network.specs.declared.networks.Layout.{Layout}
use Rattle.th_network.proofs.NetworkLemmas.{point_vertices_within}
use Rattle.th_network.proofs.networks.Network.point_vertices.Goals as goal

pub returns-clause-within : goal.returns-clause-within
returns-clause-within c =
    point_vertices_within _ _ _ (c.deref-2.ensures.value ∙ ap (λ (own : Layout). own.point_vertices.items) c.deref.ensures ∙ c.self.invariant.numbered ∙ ap (λ (s : Survey). point_vertices_of s) c.self.view_is)
