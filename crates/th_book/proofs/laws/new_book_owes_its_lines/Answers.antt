use Rattle.std.proofs.Common.{map}
use Rattle.gsi_block.specs.Blocks.{block_at}
use Rattle.th_book.proofs.Keeping.{new_book_due}
use Rattle.th_book.proofs.laws.new_book_owes_its_lines.Goals as goal

pub returns : goal.returns
returns c = λ book lines. new_book_due book (map block_at lines)
