use Rattle.std.proofs.Common.{◌≡◌, ◌<◌, ◌+◌, ◌++◌, ◌∷◌, [], ℕ, ℤ, Option, None, pos, List, drop, get_or, length, ap, ◌∙◌, arith}
use Rattle.std.specs.List.{enumerate_from, zip}
use Rattle.std.proofs.lemmas.List.{get_or_default, length-map}
use Rattle.th_observations.specs.Observed.{Observed}
use Rattle.th_tables.specs.Rows.{weight_of}
use Rattle.th_network.specs.Heights.{residual as residual_at}
use Rattle.th_network.specs.Networks.{at_points_of, points_of}
use Rattle.th_points.specs.Ends.{ends_in}
use Rattle.th_reliability.specs.declared.blames.Blame.{Blame}
use Rattle.th_columns.proofs.RowLemmas.{found_there}
use Rattle.th_blunders.proofs.HeightLemmas.{same_units}
use Rattle.th_review_rows.specs.declared.rows.End.{End}
use Rattle.th_review_rows.specs.declared.rows.ObservationRow.{ObservationRow}
use Rattle.th_review_rows.specs.Rows.{observation_row, observation_row_of, observation_rows}
use Rattle.th_review_rows.proofs.RowLemmas.{mapped_there, pushed, zipped-first3}
use Rattle.th_review_rows.proofs.observation_list.rows_of.Goals as goal

-- the row with the weight of the table, and with the residual and the ends as the heights give them
same_row : (number : ℕ) (o : Observed) (control : Option ℕ) (blame : Option Blame) (weight weight' : ℕ) (residual residual' : ℤ) (ends ends' : End × End) → weight ≡ weight' → residual ≡ residual' → ends ≡ ends'
    → observation_row_of number o weight residual control blame ends ≡ observation_row_of number o weight' residual' control blame ends'
same_row number o control blame weight weight' residual residual' ends ends' same same' same'' = λ i. observation_row_of number o (same i) (same' i) control blame (same'' i)

pub ends_at-requires-clause-places : goal.ends_at-requires-clause-places
ends_at-requires-clause-places c =
    let names = points_of c.args.network.now in
    let observations = c.args.network.now.observations in
    let all = c.observations-observations.ensures.observations in
    let within : c.loop-i.i < length observations = omega (arith, ap length all, c.loop-i-test.true) in
    let is = c.index-observations-i.is ∙ ap (λ (os : List Observed). get_or os c.loop-i.i c.index-observations-i.result) all in
    ap (λ (places : List (ℕ × ℕ)). get_or places c.loop-i.i (0, 0)) c.ends-places.ensures.ends ∙ mapped_there (ends_in names) observations c.loop-i.i c.index-observations-i.result (0, 0) within is

pub loop-i-preserved : goal.loop-i-preserved
loop-i-preserved c =
    let survey = c.args.network.now in
    let low = at_points_of survey c.args.low.now in
    let observations = survey.observations in
    let residuals = c.args.residuals.now in
    let controls = c.args.controls.now in
    let blames = c.args.blames.now in
    let i = c.loop-i.i in
    let o = c.index-observations-i.result in
    let residual : ℤ = get_or residuals i (pos 0) in
    let control : Option ℕ = get_or controls i None in
    let blame : Option Blame = get_or blames i None in
    let all = c.observations-observations.ensures.observations in
    let within : i < length observations = omega (arith, ap length all, c.loop-i-test.true) in
    let within' : i < length controls = omega (arith, within, c.requires.controls) in
    let within'' : i < length blames = omega (arith, within, c.requires.blames) in
    let is : o ≡ get_or observations i o = c.index-observations-i.is ∙ ap (λ (os : List Observed). get_or os i o) all in
    let weight = found_there (λ (o : Observed). weight_of survey.weights o.station o.target) observations i o c.weight.result within is c.weight.ensures.weight in
    let there : residual ≡ residual_at o low = ap (λ (rs : List ℤ). get_or rs i (pos 0)) c.requires.residuals ∙ mapped_there (λ (o : Observed). residual_at o low) observations i o (pos 0) within is in
    let units = same_units residual (c.requires.small i (pos 0) (omega (arith, within, ap length c.requires.residuals, length-map observations (λ (o : Observed). residual_at o low)))) in
    let first = ap (enumerate_from (i + 1)) (zipped-first3 observations controls blames i o control blame within within' within'' is (get_or_default controls i None control within') (get_or_default blames i None blame within'')) in
    pushed (observation_row survey low) (i + 1, (o, (control, blame)))
    (enumerate_from (i + 1) (zip (drop i observations) (zip (drop i controls) (drop i blames))))
    (enumerate_from (i + 1 + 1) (zip (drop (i + 1) observations) (zip (drop (i + 1) controls) (drop (i + 1) blames))))
    c.loop-i.rows.items c.push.new.self.items (observation_rows survey low controls blames) first
    (c.in_ok-push.ensures.items
    ∙ ap (λ (row : ObservationRow). c.loop-i.rows.items ++ row ∷ []) (c.observation_row.ensures ∙ same_row (i + 1) o control blame c.weight.result _ _ (residual_at o low) _ _ weight (units ∙ there) c.ends_at.ensures))
    c.loop-i.invariant
