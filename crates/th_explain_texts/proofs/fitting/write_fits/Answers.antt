use Rattle.std.proofs.Common.{ℕ, ℤ, List, ◌++◌, FitsSigned, ap, append_assoc, codes, of_z, rules, to_z, w64, ◌∙◌}
use Rattle.std.proofs.lemmas.Int.{to_z-of_z}
use Rattle.th_columns.specs.Columns.{line_end}
use Rattle.th_units.specs.Metres.{metres}
use Rattle.th_explain_texts.specs.Fitting.{fits, range_called}
use Rattle.th_explain_texts.specs.declared.rows.Values.{Values}
use Rattle.th_explain_texts.proofs.TextLemmas.{on_ok, with_end, with_part}
use Rattle.th_explain_texts.proofs.fitting.write_fits.Goals as goal

pub returns : goal.returns
unfolding fits
returns c =
    let page : List ℕ = c.args.page.now in
    let values : Values = c.args.values.now in
    let given_fits : FitsSigned w64 values.given = search rules in
    let low_fits : FitsSigned w64 values.low = search rules in
    let high_fits : FitsSigned w64 values.high = search rules in
    let given : List ℕ = codes ": given " ++ metres values.given in
    on_ok _ _ c.add-2.result
    (with_end page (given ++ codes ", fits " ++ range_called values.low values.high) (codes ".") line_end c.write_range.new.page c.add-2.new.self
    (with_part page (given ++ codes ", fits ") (range_called values.low values.high) c.add.new.self c.write_range.new.page
    (with_part page given (codes ", fits ") c.write_with_length.new.page c.add.new.self
    (c.in_ok-write_with_length.ensures ∙ ap (λ (length : ℤ). page ++ codes ": given " ++ metres length) (to_z-of_z w64 values.given given_fits) ∙ append_assoc page (codes ": given ") (metres values.given)) c.in_ok-add.ensures)
    (c.in_ok-write_range.ensures ∙ ap (λ (low : ℤ). c.add.new.self ++ range_called low (to_z w64 (of_z w64 values.high))) (to_z-of_z w64 values.low low_fits) ∙ ap (λ (high : ℤ). c.add.new.self ++ range_called values.low high) (to_z-of_z w64 values.high high_fits))))
    c.add-2.ensures
