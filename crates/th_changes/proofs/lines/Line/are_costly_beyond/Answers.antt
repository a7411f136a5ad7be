use Rattle.th_changes.proofs.LineLemmas.{costly_beyond}
use Rattle.th_changes.proofs.lines.Line.are_costly_beyond.Goals as goal

pub returns-then-is_either_above : goal.returns-then-is_either_above
returns-then-is_either_above c holds survey number cost is_line is_other =
    costly_beyond survey number cost c.args.limit c.args.self.now c.args.other.now (c.is_either_above.ensures c.if-is_either_above.true) (c.is_either_below.ensures holds) is_line is_other
