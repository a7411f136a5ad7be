use Rattle.th_circulation.proofs.CutLemmas.{untied_where_full}
use Rattle.th_circulation.proofs.WeightLemmas.{all_heavy}
use Rattle.th_circulation.proofs.laws.full_flows_cut_off.Goals as goal

pub returns : goal.returns
returns c = λ observations benchmarks weights flows inside are. untied_where_full observations benchmarks weights flows inside (all_heavy weights are observations)
