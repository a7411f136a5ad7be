use Rattle.th_network.proofs.LinkLemmas.{AreLinked}
use Rattle.th_network.proofs.links.links_of.Given as goal

abbrev pub invariant-loop-i : goal.invariant-loop-i
invariant-loop-i l = AreLinked l.fn.sites.observations l.fn.sites.benchmarks l.i l.links.items
