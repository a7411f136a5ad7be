use Rattle.th_explain_laws.proofs.OrderLemmas.{complete_ranked, each_ranked, sorted_ranked}
use Rattle.th_explain_laws.proofs.laws.ranked_rows_leave_least.Goals as goal

pub returns : goal.returns
returns c = record {
  each = each_ranked;
  sorted = sorted_ranked;
  complete = complete_ranked;
}
