use Rattle.std.proofs.Common.{◌≡◌, ◌<◌, ◌++◌, ◌+◌, ℕ, true, false, pos, List, get_or, length, of_z, to_z, w64, sym, ap, ◌∙◌, arith}
use Rattle.std.specs.List.{flat_map}
use Rattle.th_observations.specs.Observed.{Observed}
use Rattle.th_blunders.specs.Blunders.{is_blunder}
use Rattle.th_report.specs.Reports.{line_in, residual_line}
use Rattle.th_blunders.proofs.HeightLemmas.{same_units}
use Rattle.th_report.proofs.ResidualLemmas.{blunders-further, blunders-passed, blunders_left, residuals-further}
use Rattle.th_report.proofs.residual_tables.write_rows.Goals as goal
use Rattle.th_report.proofs.residual_tables.write_rows.Goals.{then-is_blunder+in_ok-add-2, else-is_blunder}

pub loop-i-preserved : goal.loop-i-preserved
loop-i-preserved c =
    let survey = c.args.network.now in
    let residuals = c.args.residuals.now in
    let limit = to_z w64 (of_z w64 c.args.limit) in
    let i = c.loop-i.i in
    let o = c.o-item.result in
    let weight = c.weight.result in
    let there = get_or residuals i (pos 0) in
    let residual = to_z w64 (of_z w64 there) in
    let all = c.observations-o-items.ensures.observations in
    let within : i < length survey.observations = omega (arith, ap length all, c.loop-i-test.true) in
    let is : o ≡ get_or survey.observations i o = c.o-item.is ∙ ap (λ (os : List Observed). get_or os i o) all in
    let small = c.requires.small i (pos 0) (omega arith) in
    let at = same_units there small in
    let left = λ (blunders : List ℕ). blunders ++ flat_map (line_in survey limit) (blunders_left survey residuals limit (i + 1)) in
    let line = residual_line limit (i + 1) o weight residual in
    let written : c.write_residual.new.page ≡ line = c.in_ok-write_residual.ensures ∙ ap (λ (empty : List ℕ). empty ++ line) c.clear.ensures in
    let table = residuals-further survey residuals limit i o residual within c.requires.each is at weight c.weight.ensures.weight
    c.loop-i.page c.add.new.self _ (c.in_ok-add.ensures ∙ ap (λ (bytes : List ℕ). c.loop-i.page ++ bytes) (c.as_bytes.ensures ∙ written)) c.loop-i.invariant.0 in
    elim c.if-is_blunder.branch [
      | then-is_blunder+in_ok-add-2 w ↦
          let above : is_blunder limit residual ≡ true = sym c.is_blunder.ensures ∙ w.if-is_blunder.true in (
            table,
            ap left w.blunders-is
                ∙ blunders-further survey residuals limit i o residual within c.requires.each is at weight c.weight.ensures.weight c.loop-i.blunders _ _ above
                (w.in_ok-add-2.ensures ∙ ap (λ (bytes : List ℕ). c.loop-i.blunders ++ bytes) (w.as_bytes-then-is_blunder.ensures ∙ written)) c.loop-i.invariant.1,
          )
      | else-is_blunder w ↦
          let not_above : is_blunder limit residual ≡ false = sym c.is_blunder.ensures ∙ w.if-is_blunder.false in
          (table, ap left w.blunders-is ∙ blunders-passed survey residuals limit i o residual within c.requires.each is at c.loop-i.blunders _ not_above c.loop-i.invariant.1)
    ]
