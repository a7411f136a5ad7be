use Rattle.th_reliability.proofs.TieLemmas.{agrees_too, stays_least}
use Rattle.th_reliability.proofs.laws.mistake_ties.Goals as goal

pub returns : goal.returns
returns c = record {
  least = λ before after benchmarks weights truth o control is_control light all. stays_least before after benchmarks weights truth o control is_control light all.kept all.fit;
  agrees = λ before after benchmarks weights truth o control is_control tie all. agrees_too before after benchmarks weights truth o control is_control tie all.kept all.fit;
}
