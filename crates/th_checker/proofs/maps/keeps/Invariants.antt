use Rattle.std.proofs.Common.{◌≡◌, ◌-◌, ◌≤◌, length, take, true}
use Rattle.std.specs.List.{list_all}
use Rattle.std.specs.Ordering.{int_eq}
use Rattle.th_certificate.specs.Certified.{stated_height}
use Rattle.th_checker.proofs.maps.keeps.Given as goal

abbrev pub invariant-loop-row : goal.invariant-loop-row
invariant-loop-row l = record {
  within : l.k ≤ length l.benchmarks;
  all : list_all (λ row. int_eq (stated_height l.stated row.0) row.1) (take l.k l.benchmarks) ≡ true;
}

abbrev pub decreases-loop-row : goal.decreases-loop-row
decreases-loop-row l = length l.benchmarks - l.k
