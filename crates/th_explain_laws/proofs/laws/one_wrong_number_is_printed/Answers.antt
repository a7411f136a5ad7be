use Rattle.th_explain_laws.proofs.OneWrongLemmas.{one_wrong_printed}
use Rattle.th_explain_laws.proofs.laws.one_wrong_number_is_printed.Goals as goal

pub returns : goal.returns
returns c = λ right candidate wrong truth flows reviews limit explained are circulation some kept fits far near has.
    one_wrong_printed right candidate wrong truth flows circulation some kept fits c.freed_is_one.ensures reviews limit explained are far near has
