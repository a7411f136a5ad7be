use Rattle.std.proofs.Common.{codes}
use Rattle.th_columns.specs.Columns.{line_end}
use Rattle.th_explain_texts.specs.Called.{joined}
use Rattle.th_explain_texts.specs.Sentences.{few_line}
use Rattle.th_explain_texts.proofs.TextLemmas.{on_ok, three_parts_and_end}
use Rattle.th_explain_texts.proofs.sentences.write_few.Goals as goal

pub returns : goal.returns
unfolding few_line
returns c =
    on_ok _ _ c.add-2.result
    (three_parts_and_end c.args.page.now (codes "One wrong number explains this: ") (joined c.args.several c.args.rows.now) (codes ".") line_end c.add.new.self c.write_joined.new.page c.add-2.new.self c.in_ok-add.ensures c.in_ok-write_joined.ensures)
    c.add-2.ensures
