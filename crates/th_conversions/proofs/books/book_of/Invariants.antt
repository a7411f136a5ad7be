use Rattle.std.proofs.Common.{◌≡◌, ◌≤◌, ◌+◌, ◌*◌, ◌++◌, drop}
use Rattle.std.specs.List.{flat_map}
use Rattle.gsi_block.specs.Writing.{block_text}
use Rattle.th_conversions.specs.Books.{blocks_from, book_text}
use Rattle.th_conversions.proofs.books.book_of.Given as goal

abbrev pub invariant-loop-row : goal.invariant-loop-row
invariant-loop-row l = record {
  written : l.text.items ++ flat_map block_text (blocks_from l.running l.number (drop l.row-index l.rows)) ≡ book_text l.rows;
  small : l.number ≤ 1 + 2 * l.row-index;
}
