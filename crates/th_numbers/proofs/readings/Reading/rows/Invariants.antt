use Rattle.std.proofs.Common.{take}
use Rattle.std.specs.List.{AllZip}
use Rattle.th_numbers.specs.Readings.{IsBookRowOrNone}
use Rattle.th_numbers.proofs.readings.Reading.rows.Given as goal

abbrev pub invariant-loop-book : goal.invariant-loop-book
invariant-loop-book l = AllZip (IsBookRowOrNone l.self.network.now l.self.kinds.now.entries.now l.self.cost l.self.limit) (take l.book-index l.books) l.rows.items
