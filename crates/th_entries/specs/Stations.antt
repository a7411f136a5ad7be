use Rattle.std.specs.Prelude.{◌≡◌, ◌≤◌, List, Contains}
use Rattle.th_observations.specs.Observed.{Observed}
use Rattle.th_entries.specs.declared.entries.Entry.{Entry}

-- All sights of an entry are from one station: every observation of its book, from the entry's line to that of its last sight, is from the entry's station.
abbrev pub HasOneStation : List Observed → Entry → Type 0
HasOneStation observations entry =
    (o : Observed) → Contains observations o → o.book ≡ entry.book → entry.line ≤ o.line → o.line ≤ entry.last → o.station ≡ entry.station
