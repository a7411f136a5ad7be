use Rattle.th_answer.proofs.LawLemmas.{moved_by_one, one_moves}
use Rattle.th_answer.proofs.laws.heights_move_with_a_row.Goals as goal

pub returns : goal.returns
returns c = λ limit heights corrected point. (moved_by_one limit heights corrected point, one_moves limit heights corrected point)
