use Rattle.std.proofs.Common.{◌≡◌, ◌-◌, ◌≤◌, map, bytes_eq, length, take}
use Rattle.indexmap.specs.IndexSet.{insert_all}
use Rattle.th_points.proofs.points.add_benchmarks.Given as goal

abbrev pub invariant-loop-row : goal.invariant-loop-row
invariant-loop-row l = (l.k ≤ length l.benchmarks) × (l.names.keys ≡ insert_all bytes_eq l.initial.names.keys (map (λ row. row.0) (take l.k l.benchmarks)))

abbrev pub decreases-loop-row : goal.decreases-loop-row
decreases-loop-row l = length l.benchmarks - l.k
