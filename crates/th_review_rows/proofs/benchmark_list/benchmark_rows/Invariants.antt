use Rattle.std.proofs.Common.{◌≡◌, ◌-◌, ◌≤◌, ◌++◌, drop, length, map}
use Rattle.std.specs.List.{zip}
use Rattle.th_review_rows.specs.Rows.{benchmark_row}
use Rattle.th_review_rows.proofs.benchmark_list.benchmark_rows.Given as goal

abbrev pub invariant-rows : goal.invariant-rows
invariant-rows l = record {
  within : l.k ≤ length l.benchmarks;
  made : l.rows.items ++ map benchmark_row (zip (drop l.k l.benchmarks) (drop l.k l.effects)) ≡ map benchmark_row (zip l.benchmarks l.effects);
}

abbrev pub decreases-rows : goal.decreases-rows
decreases-rows l = length l.benchmarks - l.k
