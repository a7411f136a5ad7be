use Rattle.std.proofs.Common.{◌≡◌, ◌++◌, drop, map}
use Rattle.std.specs.List.{enumerate_from}
use Rattle.th_html.specs.Shown.{shown_benchmark}
use Rattle.th_html.proofs.shown.shown_benchmarks.Given as goal

abbrev pub invariant-loop-k : goal.invariant-loop-k
invariant-loop-k l = l.benchmarks.items ++ map (shown_benchmark l.others) (enumerate_from l.k (drop l.k l.rows)) ≡ map (shown_benchmark l.others) (enumerate_from 0 l.rows)
