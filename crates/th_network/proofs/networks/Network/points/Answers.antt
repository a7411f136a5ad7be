use Rattle.std.proofs.Common.{ℕ, List, All, Contains, IsSome, sym, ap, ◌∙◌, subst}
use Rattle.th_tables.specs.Rows.{height_of}
use Rattle.th_network.specs.Networks.{Survey}
use Rattle.th_network.specs.declared.networks.Layout.{Layout}
use Rattle.th_points.specs.Points.{points}
use Rattle.th_points.proofs.PlaceLemmas.{ends_contained, benchmarks_contained}
use Rattle.th_network.proofs.networks.Network.points.Goals as goal

pub returns-clause-ends : goal.returns-clause-ends
returns-clause-ends c =
    let survey = c.args.self.now in
    let is = c.as_slice.ensures.keys ∙ ap (λ (own : Layout). own.points.keys) c.deref.ensures ∙ c.self.invariant.all_points ∙ ap (λ (s : Survey). points s.observations s.benchmarks) c.self.view_is in
    subst (λ (names : List (List ℕ)). All (λ o. Contains names o.station × Contains names o.target) survey.observations) (sym is) (ends_contained survey.observations survey.benchmarks)

pub returns-clause-benchmarks : goal.returns-clause-benchmarks
returns-clause-benchmarks c =
    let survey = c.args.self.now in
    let is = c.as_slice.ensures.keys ∙ ap (λ (own : Layout). own.points.keys) c.deref.ensures ∙ c.self.invariant.all_points ∙ ap (λ (s : Survey). points s.observations s.benchmarks) c.self.view_is in
    subst (λ (names : List (List ℕ)). (name : List ℕ) → IsSome (height_of survey.benchmarks name) → Contains names name) (sym is) (benchmarks_contained survey.observations survey.benchmarks)
