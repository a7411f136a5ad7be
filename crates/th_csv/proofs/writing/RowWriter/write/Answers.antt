use Rattle.std.proofs.Common.{rules}
use Rattle.th_csv.proofs.RowLemmas.{row_same}
use Rattle.th_csv.proofs.writing.RowWriter.write.Goals as goal

pub returns-clause-text : goal.returns-clause-text
returns-clause-text c = search (rules, row_same)
