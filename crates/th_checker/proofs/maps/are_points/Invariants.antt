use Rattle.std.proofs.Common.{◌≡◌, ◌-◌, ◌≤◌, bytes_eq, length, take, true}
use Rattle.std.specs.List.{list_all, list_any}
use Rattle.th_checker.proofs.maps.are_points.Given as goal

abbrev pub invariant-loop-row : goal.invariant-loop-row
invariant-loop-row l = record {
  within : l.k ≤ length l.stated;
  all : list_all (λ row. list_any (bytes_eq row.0) l.points.keys) (take l.k l.stated) ≡ true;
}

abbrev pub decreases-loop-row : goal.decreases-loop-row
decreases-loop-row l = length l.stated - l.k
