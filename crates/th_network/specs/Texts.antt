use Rattle.std.specs.Prelude.{ℕ, List, ◌++◌, codes}
use Rattle.th_network.specs.declared.faults.NetFault.{NetFault}
use Rattle.th_network.specs.declared.faults.NetFault.TheVariants.{TooManyObservations, TooManyPoints, NoBenchmark, NoMemory}

-- the text of a fault, or its beginning, which a name follows
abbrev pub fault_beginning : NetFault → List ℕ
fault_beginning TooManyObservations = codes "N1 too many observations"
fault_beginning TooManyPoints = codes "N2 too many points"
fault_beginning (NoBenchmark name) = codes "N3 no benchmark for "
fault_beginning NoMemory = codes "out of memory"

-- the text of a fault
abbrev pub fault_text : NetFault → List ℕ
fault_text (NoBenchmark name) = fault_beginning (NoBenchmark name) ++ name
fault_text other = fault_beginning other
