use Rattle.th_changes.proofs.Sums.{changed_by_none, changed_by_sum}
use Rattle.th_explain_laws.proofs.laws.changes_add_up.Goals as goal

pub returns : goal.returns
returns c = record { none = changed_by_none; sum = changed_by_sum }
