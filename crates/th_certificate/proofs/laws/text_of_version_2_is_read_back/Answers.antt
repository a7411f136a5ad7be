use Rattle.th_certificate.proofs.RoundTrip.{read_version_2}
use Rattle.th_certificate.proofs.laws.text_of_version_2_is_read_back.Goals as goal

pub returns : goal.returns
returns c = read_version_2
