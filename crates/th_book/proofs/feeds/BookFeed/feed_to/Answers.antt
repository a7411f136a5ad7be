use Rattle.std.proofs.Common.{◌≡◌, ℕ, ◌+◌, List, ◌++◌, length, subst, arith}
use Rattle.th_book.specs.Feeds.{FeedState}
use Rattle.th_book.specs.Witnesses.{IsSeeing}
use Rattle.th_book.proofs.FeedLemmas.{fed_short}
use Rattle.th_book.proofs.Seeing.{seeing_more}
use Rattle.th_book.proofs.feeds.BookFeed.feed_to.Goals as goal

pub returns-in-Ok-clause-seen : goal.returns-in-Ok-clause-seen
returns-in-Ok-clause-seen g c =
    let inside = c.self.inside in
    let piece = c.args.piece.now in
    let old : FeedState = record { book = inside.book; lines = inside.lines; bytes = inside.bytes; wanting = inside.wanting } in
    let new : FeedState = record { book = c.take_lines.new.book; lines = c.take_lines.new.lines; bytes = c.saturating_add-self-inside.result; wanting = inside.wanting } in
    let size : new.bytes ≡ old.bytes + length piece = omega (arith, c.saturating_add-self-inside.ensures, c.if-self-gt-MAX_BOOK.false) in
    subst
    (λ (feed : FeedState). (start : g.W.Witness.Start) (number : ℕ) (text later : List ℕ) → IsSeeing g.W.Witness.has_seen start number text (piece ++ later) feed c.args.witness.now → IsSeeing g.W.Witness.has_seen start number text later new c.take_lines.new.witness)
    c.self.view_is
    (seeing_more g.W.Witness.has_seen old new piece c.args.witness.now c.take_lines.new.witness (fed_short old new piece size c.in-Ok.ensures.taken) c.in-Ok.ensures.seen)
