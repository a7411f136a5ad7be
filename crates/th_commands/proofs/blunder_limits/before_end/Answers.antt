use Rattle.th_commands.proofs.LimitLemmas.{before_end_is}
use Rattle.th_commands.proofs.blunder_limits.before_end.Goals as goal

pub returns : goal.returns
returns c = before_end_is c.args.end.now c.args.text.now c.strip_suffix.result c.strip_suffix.ensures.cases
