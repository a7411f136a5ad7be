use Rattle.th_report.proofs.GsiLines.{names_read}
use Rattle.th_report.proofs.laws.points_are_read_back_from_gsi.Goals as goal

pub returns : goal.returns
returns c = names_read c.block_line_is_read.ensures c.lines_of_is_the_list_of_lines.ensures
