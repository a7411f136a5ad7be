use Rattle.std.proofs.Common.{ℕ, List, ◌++◌, ap, codes, length, ◌∙◌}
use Rattle.th_columns.specs.Columns.{line_end}
use Rattle.th_explain_texts.specs.Sentences.{count_called, least_blunders, many_most_line, stay_called}
use Rattle.th_explain_texts.proofs.TextLemmas.{on_ok, with_end, with_part}
use Rattle.th_explain_texts.proofs.sentences.write_many_most.Goals as goal

pub returns : goal.returns
unfolding many_most_line
returns c =
    let page : List ℕ = c.args.page.now in
    let count : List ℕ = count_called (length c.args.rows.now) (length c.args.rows.now) in
    let stay : List ℕ = stay_called (least_blunders c.args.rows.now) in
    let front : List ℕ = codes "No one number explains all of this. " in
    let middle : List ℕ = codes " numbers explain most, equally well: " in
    on_ok _ _ c.add-3.result
    (with_end page (front ++ count ++ middle ++ stay) (codes ". The books do not say which. Measure one of them again.") line_end c.write_stay_called.new.page c.add-3.new.self
    (with_part page (front ++ count ++ middle) stay c.add-2.new.self c.write_stay_called.new.page
    (with_part page (front ++ count) middle c.write_count_called.new.page c.add-2.new.self
    (with_part page front count c.add.new.self c.write_count_called.new.page c.in_ok-add.ensures c.in_ok-write_count_called.ensures) c.in_ok-add-2.ensures) (c.in_ok-write_stay_called.ensures ∙ ap (λ (n : ℕ). c.add-2.new.self ++ stay_called n) c.least_blunders.ensures)))
    c.add-3.ensures
