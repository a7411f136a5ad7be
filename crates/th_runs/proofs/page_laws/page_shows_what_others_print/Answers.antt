use Rattle.th_runs.proofs.FoundLemmas.{shown_is_one}
use Rattle.th_runs.proofs.page_laws.page_shows_what_others_print.Goals as goal

pub returns : goal.returns
returns c = shown_is_one (record {
  once = c.points_are_ends_and_benchmarks.ensures.once;
  low = c.lowest_and_highest_are_one.ensures.low;
  high = c.lowest_and_highest_are_one.ensures.high;
  word = c.control_decides_shared_mistake.ensures.one;
  pages = c.no_name_is_markup.ensures;
})
