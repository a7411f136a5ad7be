use Rattle.th_page.proofs.Pieces.{pieces}
use Rattle.th_page.proofs.laws.no_name_is_markup.Goals as goal

pub returns : goal.returns
returns c = pieces
