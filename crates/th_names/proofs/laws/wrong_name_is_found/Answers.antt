use Rattle.th_names.proofs.MendLemmas.{mended_left, mended_exact}
use Rattle.th_names.proofs.laws.wrong_name_is_found.Goals as goal

pub returns : goal.returns
returns c = record { left = mended_left; exact = mended_exact }
