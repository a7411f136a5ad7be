use Rattle.th_reliability.proofs.ResidualLemmas.{large_is_marked, residual_near}
use Rattle.th_reliability.proofs.laws.mistake_shows_in_its_residual.Goals as goal

pub returns : goal.returns
returns c = record {
  near = λ survey truth heights group o control only. residual_near survey group o only truth heights control;
  marked = λ survey truth heights group o control limit only. large_is_marked survey group o only truth heights control limit;
}
