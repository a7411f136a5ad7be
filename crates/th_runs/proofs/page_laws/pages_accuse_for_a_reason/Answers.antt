use Rattle.th_runs.proofs.RedLemmas.{page_is_reasoned}
use Rattle.th_runs.proofs.page_laws.pages_accuse_for_a_reason.Goals as goal

pub returns : goal.returns
returns c = page_is_reasoned (record { each = c.points_are_ends_and_benchmarks.ensures.each; low = c.lowest_and_highest_are_one.ensures.low })
