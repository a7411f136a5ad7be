use Rattle.std.proofs.Common.{ℕ, List, ◌++◌, ap, codes, ◌∙◌}
use Rattle.th_columns.specs.Columns.{line_end}
use Rattle.th_explain_texts.specs.Called.{capital, joined}
use Rattle.th_explain_texts.specs.Sentences.{least_blunders, most_line, stay_called}
use Rattle.th_explain_texts.proofs.TextLemmas.{on_ok, with_end, with_part}
use Rattle.th_explain_texts.proofs.sentences.write_most.Goals as goal

pub returns : goal.returns
unfolding most_line
returns c =
    let page : List ℕ = c.args.page.now in
    let name : List ℕ = capital (joined c.args.several c.args.rows.now) in
    let stay : List ℕ = stay_called (least_blunders c.args.rows.now) in
    let front : List ℕ = codes "No one number explains all of this. " in
    let middle : List ℕ = codes " explains most: " in
    on_ok _ _ c.add-3.result
    (with_end page (front ++ name ++ middle ++ stay) (codes ".") line_end c.write_stay_called.new.page c.add-3.new.self
    (with_part page (front ++ name ++ middle) stay c.add-2.new.self c.write_stay_called.new.page
    (with_part page (front ++ name) middle c.write_capital.new.page c.add-2.new.self
    (with_part page front name c.add.new.self c.write_capital.new.page c.in_ok-add.ensures
    (c.in_ok-write_capital.ensures ∙ ap (λ (text : List ℕ). c.add.new.self ++ capital text) (c.as_bytes.ensures ∙ c.in_ok-write_joined.ensures ∙ ap (λ (own : List ℕ). own ++ joined c.args.several c.args.rows.now) c.new-names.ensures))) c.in_ok-add-2.ensures)
    (c.in_ok-write_stay_called.ensures ∙ ap (λ (n : ℕ). c.add-2.new.self ++ stay_called n) c.least_blunders.ensures)))
    c.add-3.ensures
