use Rattle.std.proofs.Common.{◌-◌, ◌≤◌, length, take}
use Rattle.std.specs.List.{AllZip}
use Rattle.th_numbers.specs.Ties.{IsTold}
use Rattle.th_numbers.proofs.ties.tied_rows.Given as goal

abbrev pub invariant-rows : goal.invariant-rows
invariant-rows l = record {
  within : l.k ≤ length l.benchmarks;
  told : AllZip (IsTold l.network) (take l.k l.benchmarks) l.rows.items;
}

abbrev pub decreases-rows : goal.decreases-rows
decreases-rows l = length l.benchmarks - l.k
