use Rattle.std.proofs.Common.{ℕ, List, ◌++◌, codes}
use Rattle.th_columns.specs.Columns.{line_end}
use Rattle.th_explain_texts.specs.Pasting.{change_record, word_and_value}
use Rattle.th_explain_texts.specs.Tables.{number_field}
use Rattle.th_explain_texts.specs.declared.rows.Row.{Row}
use Rattle.th_explain_texts.proofs.TextLemmas.{on_ok, with_part}
use Rattle.th_explain_texts.proofs.pasting.write_change_record.Goals as goal

pub returns : goal.returns
unfolding change_record
returns c =
    let page : List ℕ = c.args.page.now in
    let row : Row = c.args.row.now in
    let header : List ℕ = codes "line,word,value\n" in
    let value : List ℕ = word_and_value c.args.named.now row in
    on_ok _ _ c.end_line.result
    (with_part page (header ++ number_field row.line ++ value) line_end c.write_word_and_value.new.page c.end_line.new.self
    (with_part page (header ++ number_field row.line) value c.write_number.new.page c.write_word_and_value.new.page
    (with_part page header (number_field row.line) c.add.new.self c.write_number.new.page c.in_ok-add.ensures c.in_ok-write_number.ensures) c.in_ok-write_word_and_value.ensures))
    c.end_line.ensures
