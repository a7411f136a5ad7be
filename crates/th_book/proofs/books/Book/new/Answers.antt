use Rattle.std.proofs.Common.{ℕ, map, List, ap, ◌∙◌}
use Rattle.gsi_block.specs.Blocks.{block_at}
use Rattle.th_observations.specs.Observed.{Observed}
use Rattle.th_book.specs.Due.{due, empty}
use Rattle.th_book.proofs.Keeping.{new_book_due}
use Rattle.th_book.proofs.books.Book.new.Goals as goal

pub returns-clause-owes : goal.returns-clause-owes
returns-clause-owes c = λ lines.
    ap (λ (observations : List Observed). due (record (empty c.args.book) { observations = observations; room = c.new.result.cap }) lines) c.new.ensures.items
    ∙ ap (λ (room : ℕ). due (record (empty c.args.book) { room = room }) lines) c.new.ensures.capacity
    ∙ new_book_due c.args.book (map block_at lines)
