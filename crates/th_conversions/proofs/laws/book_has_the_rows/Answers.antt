use Rattle.th_conversions.proofs.RowLaws.{table_is_seen}
use Rattle.th_conversions.proofs.laws.book_has_the_rows.Goals as goal

pub returns : goal.returns
returns c = table_is_seen c.name_of_name_is_itself.ensures c.block_line_is_read.ensures c.lines_of_is_the_list_of_lines.ensures c.new_book_owes_its_lines.ensures
