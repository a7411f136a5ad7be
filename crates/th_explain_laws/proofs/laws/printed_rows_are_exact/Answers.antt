use Rattle.th_explain_laws.proofs.PrintedLemmas.{each_printed}
use Rattle.th_explain_laws.proofs.laws.printed_rows_are_exact.Goals as goal

pub returns : goal.returns
returns c = λ survey reviews limit explained are. each_printed survey reviews limit explained are
