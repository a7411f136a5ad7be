use Rattle.th_reliability.proofs.BenchmarkLemmas.{drags, moves, near, shows, ties_least, ties_moves}
use Rattle.th_reliability.proofs.laws.wrong_benchmark.Goals as goal

pub returns : goal.returns
returns c = record { shows = shows; near = near; ties = ties_least; ties_too = ties_moves; drags = drags; moves = moves }
