use Rattle.std.proofs.Common.{ap, map, ◌∙◌, arith}
use Rattle.gsi_block.specs.Blocks.{block_at}
use Rattle.gsi_block.specs.Lines.{lines_of}
use Rattle.th_book.specs.Books.{parsed_of}
use Rattle.th_book.specs.Due.{BookState}
use Rattle.th_book.proofs.FeedLemmas.{cut_read, new_feed_counted, new_feed_due}
use Rattle.th_book.proofs.Seeing.{keeps_empty}
use Rattle.th_book.proofs.feeds.BookFeed.new.Goals as goal

pub invariant_of-result : goal.invariant_of-result
invariant_of-result c = record {
  counted = λ wanting within later. new_feed_counted c.new.result c.new-2.result (ap (λ (state : BookState). state.lines) c.new.ensures.holds) c.new-2.ensures.owes later;
  lasting = tt;
}

pub returns-clause-owes : goal.returns-clause-owes
returns-clause-owes c = new_feed_due c.args.book c.new.result c.new-2.result c.cut_line_is_read_as_its_line.ensures c.new.ensures.owes c.new-2.ensures.owes

pub returns-clause-begins : goal.returns-clause-begins
returns-clause-begins c = λ bytes. record {
  within = omega arith;
  keeps = keeps_empty c.args.book (parsed_of bytes) c.new.result c.new.ensures.holds;
  left = ap (map block_at) (c.new-2.ensures.owes bytes) ∙ cut_read c.cut_line_is_read_as_its_line.ensures (lines_of bytes);
}
