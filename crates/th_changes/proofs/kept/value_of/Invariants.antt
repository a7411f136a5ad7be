use Rattle.std.proofs.Common.{◌≡◌}
use Rattle.th_network.specs.Links.{link_difference}
use Rattle.th_changes.proofs.ValueLemmas.{summed_to}
use Rattle.th_changes.proofs.kept.value_of.Given as goal

abbrev pub invariant-loop-k : goal.invariant-loop-k
invariant-loop-k l = l.value ≡ summed_to (link_difference l.network.benchmarks) l.network.observations l.flows l.k
