use Rattle.std.proofs.Common.{ℕ, List, ◌++◌, codes}
use Rattle.th_columns.specs.Columns.{line_end}
use Rattle.th_explain_texts.specs.Pasting.{of_book, purpose, purpose_line}
use Rattle.th_explain_texts.proofs.TextLemmas.{on_ok, with_part}
use Rattle.th_explain_texts.proofs.pasting.write_purpose_line.Goals as goal

pub returns : goal.returns
unfolding purpose_line
returns c =
    let page : List ℕ = c.args.page.now in
    let own : List ℕ = purpose c.args.named.now c.args.row.now in
    let takes : List ℕ = codes ", height_office mend takes these changes" in
    let book : List ℕ = of_book c.args.several c.args.row.now in
    on_ok _ _ c.add-2.result
    (with_part page (line_end ++ own ++ takes ++ book) (codes ":\n") c.write_of_book.new.page c.add-2.new.self
    (with_part page (line_end ++ own ++ takes) book c.add.new.self c.write_of_book.new.page
    (with_part page (line_end ++ own) takes c.write_purpose.new.page c.add.new.self
    (with_part page line_end own c.end_line.new.self c.write_purpose.new.page c.in_ok-end_line.ensures c.in_ok-write_purpose.ensures) c.in_ok-add.ensures) c.in_ok-write_of_book.ensures))
    c.add-2.ensures
