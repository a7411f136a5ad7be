use Rattle.th_network.proofs.LinkLemmas.{AreLinked}
use Rattle.th_network.proofs.networks.relinked.Given as goal

abbrev pub invariant-loop-i : goal.invariant-loop-i
invariant-loop-i l = AreLinked l.observations l.network.benchmarks l.i l.links.items
