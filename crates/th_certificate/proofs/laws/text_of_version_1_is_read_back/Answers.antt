use Rattle.th_certificate.proofs.RoundTrip.{read_version_1}
use Rattle.th_certificate.proofs.laws.text_of_version_1_is_read_back.Goals as goal

pub returns : goal.returns
returns c = read_version_1
