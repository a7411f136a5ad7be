use Rattle.th_report.proofs.ReportLines.{report_ended, report_spaceless}
use Rattle.th_report.proofs.laws.no_line_of_report_ends_with_space.Goals as goal

pub returns-clause-ended : goal.returns-clause-ended
returns-clause-ended c = report_ended

pub returns-clause-spaces : goal.returns-clause-spaces
returns-clause-spaces c = report_spaceless
