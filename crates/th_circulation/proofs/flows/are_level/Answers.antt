use Rattle.th_circulation.proofs.BalanceLemmas.{level_at, zero_at}
use Rattle.th_circulation.proofs.flows.are_level.Goals as goal

pub returns-in-Some : goal.returns-in-Some
returns-in-Some c holds vertex = level_at c.args.graph.now.links.now c.args.flows.now c.add_all.new.balances vertex c.requires.each c.in-Some.ensures (zero_at c.add_all.new.balances vertex (c.are_zero.ensures holds))
