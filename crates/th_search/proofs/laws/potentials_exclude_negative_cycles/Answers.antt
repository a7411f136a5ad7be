use Rattle.th_search.proofs.AnswerLemmas.{no_negative_cycle}
use Rattle.th_search.proofs.laws.potentials_exclude_negative_cycles.Goals as goal

pub returns : goal.returns
returns c arcs values walk feasible cycle = no_negative_cycle arcs values walk feasible cycle
