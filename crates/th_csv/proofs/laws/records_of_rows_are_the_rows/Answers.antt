use Rattle.th_csv.proofs.RoundTripLemmas.{records_of_csv_text}
use Rattle.th_csv.proofs.laws.records_of_rows_are_the_rows.Goals as goal

pub returns : goal.returns
returns c = records_of_csv_text
