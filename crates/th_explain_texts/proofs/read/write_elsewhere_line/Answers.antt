use Rattle.std.proofs.Common.{ℕ, List, ◌++◌, ap, codes, ◌∙◌}
use Rattle.th_columns.specs.Columns.{line_end}
use Rattle.th_explain_texts.specs.Read.{elsewhere_line}
use Rattle.th_explain_texts.specs.Tables.{name_field}
use Rattle.th_explain_texts.proofs.TextLemmas.{on_ok, with_part}
use Rattle.th_explain_texts.proofs.read.write_elsewhere_line.Goals as goal

pub returns : goal.returns
unfolding elsewhere_line
returns c =
    let page : List ℕ = c.args.page.now in
    let front : List ℕ = codes "Or the setup stood on another point than " in
    let own : List ℕ = name_field c.args.row.now.from in
    on_ok _ _ c.add-3.result
    (with_part page (front ++ own) (codes "." ++ line_end) c.add-2.new.self c.add-3.new.self
    (with_part page front own c.add.new.self c.add-2.new.self c.in_ok-add.ensures (c.in_ok-add-2.ensures ∙ ap (λ (text : List ℕ). c.add.new.self ++ text) c.name_field.ensures)))
    c.add-3.ensures
