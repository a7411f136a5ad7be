use Rattle.th_reliability.proofs.ResidualLemmas.{right_is_unmarked, right_near}
use Rattle.th_reliability.proofs.laws.right_sight_is_not_marked.Goals as goal

pub returns : goal.returns
returns c = record {
  near = λ survey truth heights group o right control own only. right_near survey group o only truth heights control right own;
  unmarked = λ survey truth heights group o right control own limit only. right_is_unmarked survey group o only truth heights control limit right own;
}
