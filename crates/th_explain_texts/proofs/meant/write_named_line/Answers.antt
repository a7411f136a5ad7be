use Rattle.std.proofs.Common.{ℕ, ℤ, List, ◌++◌, FitsSigned, ap, codes, rules, w64, ◌∙◌}
use Rattle.std.proofs.lemmas.Int.{to_z-of_z}
use Rattle.th_columns.specs.Columns.{line_end}
use Rattle.th_units.specs.Metres.{metres}
use Rattle.th_explain_texts.specs.Called.{capital}
use Rattle.th_explain_texts.specs.Meant.{height_called, named_line}
use Rattle.th_explain_texts.specs.declared.rows.Named.{Named}
use Rattle.th_explain_texts.proofs.TextLemmas.{on_ok, with_end, with_two}
use Rattle.th_explain_texts.proofs.meant.write_named_line.Goals as goal

pub returns : goal.returns
unfolding named_line
returns c =
    let page : List ℕ = c.args.page.now in
    let named : Named = c.args.named.now in
    let called : List ℕ = height_called c.args.several named.height c.args.row.now in
    let typed_fits : FitsSigned w64 named.typed = search rules in
    let meant_fits : FitsSigned w64 named.meant = search rules in
    let typed : List ℕ = capital called ++ codes ": typed " ++ metres named.typed in
    on_ok _ _ c.add.result
    (with_end page (typed ++ codes ", meant " ++ metres named.meant) (codes "?") line_end c.write_with_length-2.new.page c.add.new.self
    (with_two page typed (codes ", meant ") (metres named.meant) c.write_with_length.new.page c.write_with_length-2.new.page
    (with_two page (capital called) (codes ": typed ") (metres named.typed) c.write_capital.new.page c.write_with_length.new.page
    (c.in_ok-write_capital.ensures ∙ ap (λ (text : List ℕ). page ++ capital text) (c.as_bytes.ensures ∙ c.in_ok-write_height_called.ensures ∙ ap (λ (own : List ℕ). own ++ called) c.new-name.ensures))
    (c.in_ok-write_with_length.ensures ∙ ap (λ (length : ℤ). c.write_capital.new.page ++ codes ": typed " ++ metres length) (to_z-of_z w64 named.typed typed_fits)))
    (c.in_ok-write_with_length-2.ensures ∙ ap (λ (length : ℤ). c.write_with_length.new.page ++ codes ", meant " ++ metres length) (to_z-of_z w64 named.meant meant_fits))))
    c.add.ensures
