use Rattle.std.proofs.Common.{refl, ap, ◌∙◌}
use Rattle.th_network.specs.Networks.{Survey, points_of}
use Rattle.th_network.specs.declared.networks.Layout.{Layout}
use Rattle.th_points.specs.Ends.{ends_of}
use Rattle.th_points.proofs.PlaceLemmas.{ends_within}
use Rattle.th_network.proofs.networks.Network.ends.Goals as goal

pub returns-clause-within : goal.returns-clause-within
returns-clause-within c =
    let survey = c.args.self.now in
    let is = c.deref-2.ensures.value ∙ ap (λ (own : Layout). own.ends.items) c.deref.ensures ∙ c.self.invariant.placed ∙ ap (λ (s : Survey). ends_of s.observations s.benchmarks) c.self.view_is in
    ends_within survey.observations survey.benchmarks (points_of survey) _ (record { all = refl; placed = is })
