use Rattle.std.proofs.Common.{◌-◌, ◌≤◌, length, take}
use Rattle.std.specs.List.{AllZip}
use Rattle.th_reliability.specs.BenchmarkEffects.{IsBenchmarkEffect}
use Rattle.th_reliability.proofs.benchmarks.benchmark_mistakes.Given as goal

abbrev pub invariant-rows : goal.invariant-rows
invariant-rows l = record {
  within : l.k ≤ length l.benchmarks;
  found : AllZip (λ row effect. IsBenchmarkEffect l.network row.0 effect) (take l.k l.benchmarks) l.effects.items;
}

abbrev pub decreases-rows : goal.decreases-rows
decreases-rows l = length l.benchmarks - l.k
