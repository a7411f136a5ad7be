use Rattle.std.proofs.Common.{◌≡◌, ◌++◌, drop}
use Rattle.std.specs.List.{flat_map}
use Rattle.th_review_texts.specs.Reviews.{benchmark_line}
use Rattle.th_review_texts.proofs.benchmark_tables.write_rows.Given as goal

abbrev pub invariant-loop-row : goal.invariant-loop-row
invariant-loop-row l = l.page ++ flat_map benchmark_line (drop l.row-index l.benchmarks) ≡ l.fn.page ++ flat_map benchmark_line l.benchmarks
