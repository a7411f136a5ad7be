use Rattle.std.specs.Prelude.{ℕ, List}
use Rattle.th_book.specs.Lines.{ParsedLine}
use Rattle.th_entries.specs.Inside.Watches.{IsWatched}
use Rattle.th_entries.specs.declared.sights.SightWatch.{SightWatch}

-- the lines before a place were seen: the watch holds whether one is a sight, and what they have in place of sights if none is
abbrev pub HasWatched : List ParsedLine → ℕ → SightWatch → Type 0
HasWatched parsed place watch = IsWatched parsed place watch
