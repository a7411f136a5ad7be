use Rattle.std.proofs.Common.{◌≡◌, ◌≤◌, take}
use Rattle.std.specs.List.{count_by}
use Rattle.th_network.specs.Networks.{points_of}
use Rattle.th_report.specs.Reports.{is_benchmark}
use Rattle.th_report.proofs.heads.benchmark_count.Given as goal

abbrev pub invariant-loop-k : goal.invariant-loop-k
invariant-loop-k l = record {
  count : l.count ≡ count_by (is_benchmark l.network) (take l.k (points_of l.network));
  few : l.count ≤ l.k;
}
