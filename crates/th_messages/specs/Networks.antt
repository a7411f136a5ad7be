-- What helps against a fault of a network.
use Rattle.std.specs.Prelude.{ℕ, List, codes}
use Rattle.th_network.specs.declared.faults.NetFault.{NetFault}
use Rattle.th_network.specs.declared.faults.NetFault.TheVariants.{TooManyObservations, TooManyPoints, NoBenchmark, NoMemory}

-- a fault of a network
abbrev pub network_help : NetFault → List ℕ
network_help TooManyObservations = codes "a network has at most 40,000 observations: adjust it in parts"
network_help TooManyPoints = codes "a network has at most 4,000 points: adjust it in parts"
network_help (NoBenchmark name) = codes "no chain of sights leads from this point to a benchmark: compare the names in books and table"
network_help NoMemory = codes "this is no fault of the network"
