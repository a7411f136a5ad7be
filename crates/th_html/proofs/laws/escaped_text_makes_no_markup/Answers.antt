use Rattle.th_html.proofs.Markup.{plain_text}
use Rattle.th_html.proofs.laws.escaped_text_makes_no_markup.Goals as goal

pub returns : goal.returns
returns c = plain_text
