use Rattle.gsi_word.specs.Names.{same_pair}
use Rattle.th_tables.specs.Fields.{weighted_in}
use Rattle.th_tables.proofs.FaultLaws.{AreRowsOf-rows_after, IsFirstFault-rows_after}
use Rattle.th_tables.proofs.laws.weights_have_no_fault_or_the_first.Goals as goal

pub returns-clause-rows : goal.returns-clause-rows
returns-clause-rows c = AreRowsOf-rows_after same_pair weighted_in

pub returns-clause-fault : goal.returns-clause-fault
returns-clause-fault c = IsFirstFault-rows_after same_pair weighted_in
