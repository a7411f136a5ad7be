use Rattle.std.proofs.Common.{◌<◌, ◌≤◌, List, get_or, length, subst, sym}
use Rattle.th_explain_texts.specs.declared.rows.Row.{Row}
use Rattle.th_explain_rows.specs.Explanations.{all_rows}
use Rattle.th_explain_laws.proofs.OrderLemmas.{sorted_ranked}
use Rattle.th_explain_laws.proofs.laws.printed_rows_are_sorted.Goals as goal

pub returns : goal.returns
returns c = λ survey reviews limit explained j k d are.
    subst (λ (rows : List Row). j ≤ k → k < length rows → (get_or rows j d).left ≤ (get_or rows k d).left) (sym are.printed.leading) (sorted_ranked (all_rows are.printed.own are.printed.read) j k d)
