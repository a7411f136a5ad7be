use Rattle.th_checker.proofs.YesLemmas.{yes_least, yes_least_high, yes_least_low}
use Rattle.th_checker.proofs.laws.yes_implies_least.Goals as goal

pub returns-clause-heights : goal.returns-clause-heights
returns-clause-heights c = yes_least

pub returns-clause-low : goal.returns-clause-low
returns-clause-low c = yes_least_low

pub returns-clause-high : goal.returns-clause-high
returns-clause-high c = yes_least_high
