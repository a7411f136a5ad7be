use Rattle.std.proofs.Common.{◌≡◌, Bool, not, ℕ, ℤ, pos, length, get_or, w64, to_z, of_z, sym, ap, ◌∙◌, arith}
use Rattle.std.specs.List.{zip}
use Rattle.std.proofs.lemmas.Int.{fits_signed_from_abs, to_z-of_z}
use Rattle.th_checker.specs.Inside.Tests.{is_slack_at, residuals_at}
use Rattle.th_checker.proofs.NumberLemmas.{plain_flow}
use Rattle.th_checker.proofs.PositionLemmas.{position_end, position_here, position_more}
use Rattle.th_checker.proofs.ZipLemmas.{length_residuals, length_triples, triple_at}
use Rattle.th_checker.proofs.observations.Tested.first_not_slack.Goals as goal

-- whether a flow is not slack
abbrev test : ℕ × (ℤ × ℤ) → Bool
test it = not (is_slack_at it)

pub returns-then-not-is_slack : goal.returns-then-not-is_slack
returns-then-not-is_slack c =
    let tested = c.args.self.now.tested in
    let weights = c.args.self.now.weights.now in
    let flows = c.args.self.now.flows.now in
    let residuals = residuals_at (zip c.args.self.now.observations.now c.args.self.now.ends.now) c.args.heights.now in
    let each : length flows ≡ length weights = tested.flowing ∙ sym tested.weighed in
    let same : length residuals ≡ length weights = length_residuals c.args.self.now.observations.now c.args.self.now.ends.now c.args.heights.now tested.ended ∙ sym tested.weighed in
    let i = c.loop-i.i in
    let weight = get_or weights i 0 in
    let residual = get_or residuals i (pos 0) in
    let flow = get_or flows i (pos 0) in
    let own = c.residual-residual.result in
    let plain : to_z w64 (of_z w64 own) ≡ residual = to_z-of_z w64 own (fits_signed_from_abs w64 own (omega (arith, c.residual-residual.ensures.small))) ∙ c.residual-residual.ensures.value in
    let turn : c.is_slack.result ≡ is_slack_at (weight, (residual, flow)) =
    c.is_slack.ensures
    ∙ ap (λ (z : ℤ). is_slack_at (weight, (z, to_z w64 (of_z w64 flow)))) plain
    ∙ ap (λ (z : ℤ). is_slack_at (weight, (residual, z))) (plain_flow flows i tested.in_range c.loop-i-test.true) in
    let passes = ap not (sym turn ∙ c.if-not-is_slack.true) in
    sym (position_here test (zip weights (zip residuals flows)) i (0, (pos 0, pos 0)) (omega (arith, length_triples weights residuals flows each same, c.loop-i-test.true))
    (ap test (triple_at weights residuals flows i each same c.loop-i-test.true) ∙ passes))
    ∙ c.loop-i.invariant

pub loop-i-preserved : goal.loop-i-preserved
loop-i-preserved c =
    let tested = c.args.self.now.tested in
    let weights = c.args.self.now.weights.now in
    let flows = c.args.self.now.flows.now in
    let residuals = residuals_at (zip c.args.self.now.observations.now c.args.self.now.ends.now) c.args.heights.now in
    let each : length flows ≡ length weights = tested.flowing ∙ sym tested.weighed in
    let same : length residuals ≡ length weights = length_residuals c.args.self.now.observations.now c.args.self.now.ends.now c.args.heights.now tested.ended ∙ sym tested.weighed in
    let i = c.loop-i.i in
    let weight = get_or weights i 0 in
    let residual = get_or residuals i (pos 0) in
    let flow = get_or flows i (pos 0) in
    let own = c.residual-residual.result in
    let plain : to_z w64 (of_z w64 own) ≡ residual = to_z-of_z w64 own (fits_signed_from_abs w64 own (omega (arith, c.residual-residual.ensures.small))) ∙ c.residual-residual.ensures.value in
    let turn : c.is_slack.result ≡ is_slack_at (weight, (residual, flow)) =
    c.is_slack.ensures
    ∙ ap (λ (z : ℤ). is_slack_at (weight, (z, to_z w64 (of_z w64 flow)))) plain
    ∙ ap (λ (z : ℤ). is_slack_at (weight, (residual, z))) (plain_flow flows i tested.in_range c.loop-i-test.true) in
    let fails = ap not (sym turn ∙ c.if-not-is_slack.false) in
    sym (position_more test (zip weights (zip residuals flows)) i (0, (pos 0, pos 0)) (omega (arith, length_triples weights residuals flows each same, c.loop-i-test.true))
    (ap test (triple_at weights residuals flows i each same c.loop-i-test.true) ∙ fails))
    ∙ c.loop-i.invariant

pub returns : goal.returns
returns c =
    let tested = c.args.self.now.tested in
    let weights = c.args.self.now.weights.now in
    let flows = c.args.self.now.flows.now in
    let residuals = residuals_at (zip c.args.self.now.observations.now c.args.self.now.ends.now) c.args.heights.now in
    let each : length flows ≡ length weights = tested.flowing ∙ sym tested.weighed in
    let same : length residuals ≡ length weights = length_residuals c.args.self.now.observations.now c.args.self.now.ends.now c.args.heights.now tested.ended ∙ sym tested.weighed in
    sym (position_end test (zip weights (zip residuals flows)) c.loop-i.i (omega (arith, length_triples weights residuals flows each same, c.loop-i-test.false))) ∙ c.loop-i.invariant
