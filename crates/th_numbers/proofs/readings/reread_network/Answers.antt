use Rattle.std.proofs.Common.{List, ap, map, sym, subst, ◌∙◌}
use Rattle.th_observations.specs.Observed.{Observed}
use Rattle.th_network.specs.Networks.{HaveSameEnds}
use Rattle.th_numbers.specs.Readings.{read_observation}
use Rattle.th_numbers.proofs.RereadLemmas.{same_ends_read}
use Rattle.th_numbers.proofs.readings.reread_network.Goals as goal

pub with_differences-requires : goal.with_differences-requires
with_differences-requires c =
    let entries = c.args.kinds.now.entries.now in
    let observations : List Observed = c.args.network.now.observations in
    let read = rw c.in-Some.is at c.in_ok-read.ensures in
    subst (HaveSameEnds observations) (sym (read ∙ ap (map (read_observation entries c.args.book)) c.observations.ensures.observations)) (same_ends_read entries c.args.book observations)
