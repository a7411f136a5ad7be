use Rattle.th_page.proofs.Reasons.{good_is_not_red}
use Rattle.th_page.proofs.laws.good_pages_have_no_red.Goals as goal

pub returns : goal.returns
returns c = good_is_not_red
