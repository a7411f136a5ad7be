use Rattle.std.proofs.Common.{ℕ, ℤ, List, ◌++◌, FitsSigned, ap, append_assoc, codes, rules, w64, ◌∙◌}
use Rattle.std.proofs.lemmas.Int.{to_z-of_z}
use Rattle.th_columns.specs.Columns.{line_end}
use Rattle.th_units.specs.Metres.{metres}
use Rattle.th_explain_texts.specs.Columns.{mildest_value}
use Rattle.th_explain_texts.specs.Fitting.{no_pole_line}
use Rattle.th_explain_texts.proofs.TextLemmas.{on_ok, with_end}
use Rattle.th_explain_texts.proofs.fitting.write_no_pole.Goals as goal

pub returns : goal.returns
unfolding no_pole_line
returns c =
    let page : List ℕ = c.args.page.now in
    let length : ℤ = mildest_value c.args.values.now in
    let small : FitsSigned w64 c.mildest_value.result = search rules in
    on_ok _ _ c.add.result
    (with_end page (codes "No pole is " ++ metres length) (codes " m long.") line_end c.write_with_length.new.page c.add.new.self
    (c.in_ok-write_with_length.ensures ∙ ap (λ (own : ℤ). page ++ codes "No pole is " ++ metres own) (to_z-of_z w64 c.mildest_value.result small ∙ c.mildest_value.ensures) ∙ append_assoc page (codes "No pole is ") (metres length)))
    c.add.ensures
