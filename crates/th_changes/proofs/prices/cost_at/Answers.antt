use Rattle.std.proofs.Common.{◌≡◌, ◌<◌, ◌∙◌, ℕ, ℤ, List, ap, get_or, length, of_z, subst, sum_by, sym, take, to_z, w64, arith}
use Rattle.std.proofs.lemmas.Int.{to_z-of_z}
use Rattle.std.proofs.lemmas.List.{get_or_default, take_all}
use Rattle.th_observations.specs.Observed.{Observed}
use Rattle.th_changes.specs.Freed.{Costs}
use Rattle.th_changes.specs.Rerouted.{priced}
use Rattle.th_changes.proofs.PriceLemmas.{costs_over, nowhere, price_more}
use Rattle.th_changes.proofs.prices.cost_at.Goals as goal

pub loop-i-preserved : goal.loop-i-preserved
loop-i-preserved c =
    let survey = c.args.network.now in
    let observations : List Observed = survey.observations in
    let all = ap length c.observations-observations.ensures.observations in
    let i = c.loop-i.i in
    let within : i < length observations = omega (arith, all, c.loop-i-test.true) in
    let o : Observed = get_or observations i nowhere in
    let is : get_or observations i o ≡ o = get_or_default observations i o nowhere within in
    let f : Observed → ℕ = priced survey c.args.number.now (to_z w64 (of_z w64 c.args.change)) c.args.heights.now in
    let price : c.in_ok-price.field-0 ≡ f o = c.in_ok-price.ensures o is in
    let more = price_more f observations i o within (sym is) in
    let before : c.loop-i.total ≡ sum_by f (take i observations) = c.loop-i.invariant in
    let sum = c.in_ok-total.ensures.1 in
    omega (arith, price, more, before, sum)

pub returns : goal.returns
returns c =
    let survey = c.args.network.now in
    let observations : List Observed = survey.observations in
    let all = ap length c.observations-observations.ensures.observations in
    let number = c.args.number.now in
    let x : ℤ = to_z w64 (of_z w64 c.args.change) in
    let f : Observed → ℕ = priced survey number x c.args.heights.now in
    let total : c.loop-i.total ≡ sum_by f observations = c.loop-i.invariant ∙ ap (sum_by f) (take_all c.loop-i.i observations (omega (arith, all, c.loop-i-test.false))) in
    subst (λ (change : ℤ). Costs survey number change c.loop-i.total) (to_z-of_z w64 c.args.change c.ranges.change) (costs_over survey number x c.args.heights.now c.loop-i.total total)
