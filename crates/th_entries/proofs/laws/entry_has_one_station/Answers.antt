use Rattle.std.proofs.Common.{ap}
use Rattle.th_entries.specs.Reviews.{parsed_of}
use Rattle.th_entries.specs.declared.entries.Entry.{Entry}
use Rattle.th_entries.proofs.StationLemmas.{IsEntry-entries_of, one-station}
use Rattle.th_entries.proofs.laws.entry_has_one_station.Goals as goal

pub returns-clause-book : goal.returns-clause-book
returns-clause-book c = λ number parsed entry among.
    ap (λ (own : Entry). own.book) (IsEntry-entries_of number parsed entry among).is

pub returns-clause-station : goal.returns-clause-station
returns-clause-station c = λ number text observations entry answered among o seen same from to.
    one-station number (parsed_of text) entry o (IsEntry-entries_of number (parsed_of text) entry among)
    (c.observation_is_of_a_sight.ensures.sight number text observations o answered seen) from to
