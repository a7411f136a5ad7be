use Rattle.std.proofs.Common.{◌≡◌, ◌+◌, ◌++◌, drop}
use Rattle.std.specs.List.{enumerate_from, flat_map}
use Rattle.th_numbers.specs.Lists.{benchmark_at, tied_benchmarks}
use Rattle.th_numbers.proofs.listing.tied_benchmarks.Given as goal

abbrev pub invariant-loop-k : goal.invariant-loop-k
invariant-loop-k l = l.found.items ++ flat_map benchmark_at (enumerate_from (l.k + 2) (drop l.k l.rows)) ≡ tied_benchmarks l.rows
