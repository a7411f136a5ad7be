use Rattle.std.proofs.Common.{rules, ◌≡◌, ◌≤◌, ◌+◌, length, sym, subst}
use Rattle.th_csv.specs.Inside.Readers.{records_left}
use Rattle.th_csv.specs.Records.{records_of}
use Rattle.th_csv.proofs.RecordLemmas.{length-records_of}
use Rattle.th_csv.proofs.reading.RecordReader.open.Goals as goal

pub returns-clause-few : goal.returns-clause-few
returns-clause-few c =
    let same : records_left c.from_reader.result ≡ records_of c.args.text.now = search rules in
    subst (λ records. length records ≤ length c.args.text.now + 1) (sym same) (length-records_of c.args.text.now)
