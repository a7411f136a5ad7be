use Rattle.th_changes.proofs.LineLemmas.{at_least}
use Rattle.th_changes.proofs.lines.Line.leave_at_least.Goals as goal

pub returns-in-Some : goal.returns-in-Some
returns-in-Some c holds survey number is_line is_other =
    at_least survey number c.args.cost c.args.least _ _ c.args.self.now c.args.other.now c.in-Some.ensures is_line is_other
