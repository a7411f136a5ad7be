use Rattle.th_conversions.proofs.LawLemmas.{printed_is_seen}
use Rattle.th_conversions.proofs.laws.printed_book_has_the_height_sights.Goals as goal

pub returns : goal.returns
returns c = printed_is_seen c.spelling_of_is_the_spelling.ensures c.block_line_is_read.ensures c.block_at_reads_blocks.ensures c.lines_of_is_the_list_of_lines.ensures c.new_book_owes_its_lines.ensures
