use Rattle.std.proofs.Common.{◌≡◌, ◌-◌, ◌≤◌, ◌++◌, flat_map, length, map, take}
use Rattle.th_points.specs.Points.{ends}
use Rattle.th_points.specs.Inside.NameLines.{name_line}
use Rattle.th_points.proofs.points.all_names.Given as goal

abbrev pub invariant-loop-o : goal.invariant-loop-o
invariant-loop-o l = l.content.items ≡ flat_map name_line (ends (take l.o-index l.observations))

abbrev pub invariant-rows : goal.invariant-rows
invariant-rows l = record {
  within : l.k ≤ length l.benchmarks;
  lines : l.content.items ≡ flat_map name_line (ends l.observations ++ map (λ row. row.0) (take l.k l.benchmarks));
}

abbrev pub decreases-rows : goal.decreases-rows
decreases-rows l = length l.benchmarks - l.k
