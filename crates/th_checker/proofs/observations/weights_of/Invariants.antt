use Rattle.std.proofs.Common.{◌≡◌, map, take}
use Rattle.th_tables.specs.Rows.{weight_of}
use Rattle.th_checker.proofs.observations.weights_of.Given as goal

abbrev pub invariant-loop-o : goal.invariant-loop-o
invariant-loop-o l = l.found.items ≡ map (λ o. weight_of l.weights o.station o.target) (take l.o-index l.observations)
