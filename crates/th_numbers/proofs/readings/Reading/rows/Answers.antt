use Rattle.std.proofs.Common.{List, get_or, subst}
use Rattle.std.proofs.lemmas.List.{get_or_default, take_all}
use Rattle.std.specs.List.{AllZip}
use Rattle.th_reliability.proofs.ZipLemmas.{zip_next}
use Rattle.th_numbers.specs.Readings.{IsBookRowOrNone}
use Rattle.th_numbers.specs.declared.books.SightedBook.{SightedBook}
use Rattle.th_numbers.proofs.readings.Reading.rows.Goals as goal

-- no book
abbrev none : SightedBook
none = record { number = 0; sights = 0 }

pub loop-book-preserved : goal.loop-book-preserved
loop-book-preserved c =
    zip_next (IsBookRowOrNone c.args.self.now.network.now c.args.self.now.kinds.now.entries.now c.args.self.now.cost c.args.self.now.limit) c.args.books.now c.loop-book.rows.items c.add_found.new.rows.items c.loop-book.book-index (get_or c.args.books.now c.loop-book.book-index none) c.in_ok-found.found
    c.loop-book-test.true (get_or_default c.args.books.now c.loop-book.book-index none (get_or c.args.books.now c.loop-book.book-index none) c.loop-book-test.true) c.in_ok-add_found.ensures c.loop-book.invariant c.in_ok-found.ensures.row

pub returns : goal.returns
returns c = record {
  rows = subst (λ (own : List SightedBook). AllZip (IsBookRowOrNone c.args.self.now.network.now c.args.self.now.kinds.now.entries.now c.args.self.now.cost c.args.self.now.limit) own c.loop-book.rows.items) (take_all c.loop-book.book-index c.args.books.now c.loop-book-test.false) c.loop-book.invariant;
}
