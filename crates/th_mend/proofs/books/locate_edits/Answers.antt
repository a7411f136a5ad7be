use Rattle.th_book.specs.Books.{parsed_of}
use Rattle.th_mend.proofs.BookLemmas.{located, not_located}
use Rattle.th_mend.proofs.books.locate_edits.Goals as goal

pub returns-in-Ok-clause-edits : goal.returns-in-Ok-clause-edits
returns-in-Ok-clause-edits c =
    let read = c.in_ok-locating.ensures.read in
    located c.args.changes.now c.args.bytes.now c.in_ok-locating.locating c.in-Ok.edits.items read (c.in-Ok.ensures.edits c.args.changes.now 1 (parsed_of c.args.bytes.now) read.seen)

pub returns-clause-fault : goal.returns-clause-fault
returns-clause-fault c = λ other.
    let read = c.in_ok-locating.ensures.read in
    not_located c.args.changes.now c.args.bytes.now c.in_ok-locating.locating c.in-Err.stop c.of_stop.result read c.of_stop.ensures (c.in-Err.ensures.fault c.args.changes.now 1 (parsed_of c.args.bytes.now) read.seen) other
