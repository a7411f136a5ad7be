use Rattle.std.proofs.Common.{◌≡◌, All, map, take}
use Rattle.th_network.specs.Networks.{IsWeight}
use Rattle.th_tables.specs.Rows.{weight_of}
use Rattle.th_network.proofs.weights.weights_of.Given as goal

abbrev pub invariant-loop-o : goal.invariant-loop-o
invariant-loop-o l = record {
  value : l.listed.items ≡ map (λ o. weight_of l.weights o.station o.target) (take l.o-index l.observations);
  in_range : All IsWeight l.listed.items;
}
