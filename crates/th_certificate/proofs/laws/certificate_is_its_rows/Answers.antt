use Rattle.th_certificate.proofs.RowsHeard.{rows_of_read}
use Rattle.th_certificate.proofs.RowsRead.{read_of_rows}
use Rattle.th_certificate.proofs.laws.certificate_is_its_rows.Goals as goal

pub returns : goal.returns
returns c = λ bytes certified. (rows_of_read bytes certified, λ is. read_of_rows bytes certified is.0 is.1)
