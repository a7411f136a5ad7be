use Rattle.th_report.proofs.HeightColumns.{shown_heights}
use Rattle.th_report.proofs.laws.heights_are_read_back.Goals as goal

pub returns : goal.returns
returns c = shown_heights c.records_of_rows_are_the_rows.ensures
