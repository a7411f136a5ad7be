use Rattle.th_changes.proofs.Bounds.{low_bound, high_bound}
use Rattle.th_explain_laws.proofs.laws.proposed_are_bounded.Goals as goal

pub returns : goal.returns
returns c = record { low = low_bound; high = high_bound }
