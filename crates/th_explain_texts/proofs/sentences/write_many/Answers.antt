use Rattle.std.proofs.Common.{codes}
use Rattle.th_columns.specs.Columns.{line_end}
use Rattle.th_explain_texts.specs.Sentences.{count_called, many_line}
use Rattle.th_explain_texts.proofs.TextLemmas.{on_ok, two_parts}
use Rattle.th_explain_texts.proofs.sentences.write_many.Goals as goal

pub returns : goal.returns
unfolding many_line
returns c =
    on_ok _ _ c.add.result
    (two_parts c.args.page.now (count_called c.args.ranked c.args.count) (codes " numbers explain this equally well: any one of them may be wrong. The books do not say which. Measure one of them again.") line_end c.write_count_called.new.page c.add.new.self c.in_ok-write_count_called.ensures)
    c.add.ensures
