use Rattle.th_review_rows.specs.Entries.{entries_of}
use Rattle.th_explain_laws.proofs.laws.named_heights_may_have_been_meant.Goals as goal

pub returns : goal.returns
returns c = λ survey reviews limit explained are. c.named_may_have_been_meant.ensures (entries_of reviews) limit explained.rows.items explained.named.items are.named
