use Rattle.th_explain_laws.proofs.BenchmarkLemmas.{row_left_out}
use Rattle.th_explain_laws.proofs.laws.benchmark_left_out_is_freed.Goals as goal

pub returns : goal.returns
returns c = λ survey name fewer heights without. row_left_out survey name fewer without heights
