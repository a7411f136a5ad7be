use Rattle.std.proofs.Common.{◌≡◌, ◌∙◌, ℤ, List, ap, length, of_z, subst, sym, to_z, w64}
use Rattle.std.proofs.lemmas.Int.{to_z-of_z}
use Rattle.std.proofs.lemmas.List.{length-map}
use Rattle.std.specs.List.{count_by}
use Rattle.th_blunders.specs.Blunders.{is_blunder}
use Rattle.th_blunders.specs.Residuals.{residuals}
use Rattle.th_network.specs.Heights.{residual}
use Rattle.th_network.specs.Networks.{Survey, at_points_of}
use Rattle.th_changes.specs.Tilted.{tilted}
use Rattle.th_explain.specs.Mended.{AreLowestWith, LeavesBlunders}
use Rattle.th_explain.proofs.MendedLemmas.{blunders_moved}
use Rattle.th_explain.proofs.mended.blunders_left.Goals as goal

pub blunder_count-requires-clause-each : goal.blunder_count-requires-clause-each
blunder_count-requires-clause-each c =
    let own : Survey = c.in_ok-own.own in
    ap length (c.deref-2.ensures.value ∙ c.in_ok-fit.ensures.residuals) ∙ length-map own.observations (λ o. residual o (at_points_of own c.deref.result.now)) ∙ sym (ap length c.observations.ensures.observations)

pub returns-clause-left : goal.returns-clause-left
returns-clause-left c =
    let survey = c.args.mending.now.case.now.network.now in
    let number = c.args.number.now in
    let x : ℤ = to_z w64 (of_z w64 c.args.change) in
    let limit : ℤ = to_z w64 (of_z w64 c.args.limit) in
    let own : Survey = c.in_ok-own.own in
    let low : List ℤ = c.in_ok-heights.heights.items in
    let lowest : AreLowestWith survey number x low = c.in_ok-heights.ensures.lowest in
    let left : List ℤ = c.in_ok-fit.fit.residuals.items in
    let are : left ≡ residuals (tilted number x survey).observations (at_points_of (tilted number x survey) low) =
    c.in_ok-fit.ensures.residuals ∙ ap (λ (low : List ℤ). residuals own.observations (at_points_of own low)) c.deref.ensures.value ∙ ap (λ (own : Survey). residuals own.observations (at_points_of own low)) c.in_ok-own.ensures in
    let counted : c.blunder_count.result ≡ count_by (is_blunder limit) left = c.blunder_count.ensures ∙ ap (count_by (is_blunder limit)) c.deref-2.ensures.value in
    subst (λ (change : ℤ). LeavesBlunders survey number change c.args.limit c.blunder_count.result) (to_z-of_z w64 c.args.change c.ranges.change)
    (subst (λ (limit : ℤ). LeavesBlunders survey number x limit c.blunder_count.result) (to_z-of_z w64 c.args.limit c.ranges.limit)
    (blunders_moved survey number x limit (at_points_of (tilted number x survey) low) left c.blunder_count.result lowest.lowest are counted))
