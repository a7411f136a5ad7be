use Rattle.th_csv.proofs.RecordLemmas.{length-records_of}
use Rattle.th_csv.proofs.laws.records_are_few.Goals as goal

pub returns : goal.returns
returns c = length-records_of
