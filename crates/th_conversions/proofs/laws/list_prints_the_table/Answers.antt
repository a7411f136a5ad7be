use Rattle.th_conversions.proofs.ListLaws.{list_again}
use Rattle.th_conversions.proofs.laws.list_prints_the_table.Goals as goal

pub returns : goal.returns
returns c = list_again c.book_has_the_rows.ensures
