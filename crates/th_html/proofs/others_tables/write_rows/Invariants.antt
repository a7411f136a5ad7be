use Rattle.std.proofs.Common.{◌≡◌, ◌++◌, drop}
use Rattle.std.specs.List.{flat_map}
use Rattle.th_html.specs.Benchmarks.{others_row}
use Rattle.th_html.proofs.others_tables.write_rows.Given as goal

abbrev pub invariant-loop-benchmark : goal.invariant-loop-benchmark
invariant-loop-benchmark l = l.page ++ flat_map (others_row l.limit l.is_only) (drop l.benchmark-index l.benchmarks) ≡ l.fn.page ++ flat_map (others_row l.limit l.is_only) l.benchmarks
