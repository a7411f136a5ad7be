use Rattle.std.proofs.Common.{rules}
use Rattle.th_entries.proofs.Tallying.{empty-tallied}
use Rattle.th_entries.proofs.tallies.Tally.new.Goals as goal

pub returns : goal.returns
returns c = λ parsed none. empty-tallied c.args.names c.args.book parsed _ (search rules)
