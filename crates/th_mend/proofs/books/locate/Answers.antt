use Rattle.std.proofs.Common.{◌∙◌, [], sym}
use Rattle.th_book.specs.Witnesses.{IsSeeing}
use Rattle.th_mend.specs.Inside.Forces.{IsLocating}
use Rattle.th_mend.proofs.BookLemmas.{begun, book_fault}
use Rattle.th_mend.proofs.books.locate.Goals as goal

pub returns-in-Ok-clause-read : goal.returns-in-Ok-clause-read
returns-in-Ok-clause-read c =
    let fed : IsSeeing IsLocating c.args.changes.now 1 c.args.bytes.now [] c.feed_to.new.self c.feed_to.new.witness =
    c.in_ok-feed_to.ensures.seen c.args.changes.now 1 c.args.bytes.now [] (begun c.args.changes.now c.args.bytes.now c.new-feed.result c.in_ok-locating.locating c.new-feed.ensures.owes c.new-feed.ensures.begins c.in_ok-locating.ensures) in
    record {
      faultless = (c.in-Ok.field-0.items, sym fed.due ∙ c.in-Ok.ensures.finished.ok);
      seen = c.in-Ok.ensures.seen c.args.changes.now 1 c.args.bytes.now fed;
    }

pub returns-in-Err-clause-fault : goal.returns-in-Err-clause-fault
returns-in-Err-clause-fault c = λ other.
    let fed : IsSeeing IsLocating c.args.changes.now 1 c.args.bytes.now [] c.feed_to.new.self c.feed_to.new.witness =
    c.in_ok-feed_to.ensures.seen c.args.changes.now 1 c.args.bytes.now [] (begun c.args.changes.now c.args.bytes.now c.new-feed.result c.in_ok-locating.locating c.new-feed.ensures.owes c.new-feed.ensures.begins c.in_ok-locating.ensures) in
    book_fault c.args.changes.now c.args.bytes.now c.in-Err.fault c.of_book.result c.of_book.ensures other (λ kind. sym fed.due ∙ c.in-Err.ensures.finished.fault kind)
