use Rattle.th_html.proofs.Struck.{struck_out}
use Rattle.th_html.proofs.laws.moved_heights_are_struck_out.Goals as goal

pub returns : goal.returns
returns c = struck_out
