use Rattle.std.proofs.Common.{◌≡◌, ℕ, List, All, length, sym, ap, ◌∙◌, subst}
use Rattle.std.proofs.lemmas.List.{length-map}
use Rattle.th_tables.specs.Rows.{height_of}
use Rattle.th_points.specs.Ends.{AreBelow}
use Rattle.th_points.proofs.PlaceLemmas.{ends_within}
use Rattle.th_network.specs.Inside.Sites.{AreSites, Looked}
use Rattle.th_network.proofs.SiteLemmas.{untied_when_ok}
use Rattle.th_network.proofs.anchors.first_untied.Goals as goal

pub first_unreached-requires-clause-each : goal.first_unreached-requires-clause-each
first_unreached-requires-clause-each c =
    ap length (c.deref.ensures.value ∙ c.sites.invariant.fixed) ∙ length-map c.sites.inside.points.names.keys (height_of c.sites.inside.benchmarks.now) ∙ sym (ap length c.as_slice.ensures.keys)

pub first_unreached-requires-clause-within : goal.first_unreached-requires-clause-within
first_unreached-requires-clause-within c =
    let inside = c.sites.inside in
    let below = ends_within inside.observations.now inside.benchmarks.now inside.points.names.keys inside.points.ends.items c.sites.invariant.are in
    let size : length inside.points.names.keys ≡ length c.deref.result.now = sym (ap length (c.deref.ensures.value ∙ c.sites.invariant.fixed) ∙ length-map inside.points.names.keys (height_of inside.benchmarks.now)) in
    subst (λ (es : List (ℕ × ℕ)). All (AreBelow (length c.deref.result.now)) es) (sym c.deref-2.ensures.value) (subst (λ (n : ℕ). All (AreBelow n) inside.points.ends.items) size below)

pub returns : goal.returns
returns c =
    let sited = subst (λ (own : Looked). AreSites own c.sites.inside.points.names.keys c.sites.inside.points.ends.items c.sites.inside.heights.items) c.sites.view_is c.sites.invariant in
    untied_when_ok c.args.sites.now _ _ _ _ _ _ c.first_unreached.result sited c.as_slice.ensures.keys c.deref-2.ensures.value c.deref.ensures.value c.first_unreached.ensures
