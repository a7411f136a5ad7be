use Rattle.std.proofs.Common.{length}
use Rattle.th_book.specs.Inside.Witnesses.{AreSeen}
use Rattle.th_book.proofs.FeedLemmas.{IsTaking}
use Rattle.th_book.proofs.feeds.take_lines.Given as goal

abbrev pub invariant-pieces : goal.invariant-pieces
invariant-pieces g l =
    IsTaking l.fn.book l.fn.lines l.book l.lines l.piece l.rest
    × AreSeen g.W.Witness.has_seen l.fn.book l.fn.lines l.piece l.fn.witness l.book l.lines l.rest l.witness

abbrev pub decreases-pieces : goal.decreases-pieces
decreases-pieces g l = length l.rest
