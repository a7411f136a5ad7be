use Rattle.std.proofs.Common.{◌≡◌, ◌++◌, drop}
use Rattle.std.specs.List.{enumerate_from, flat_map}
use Rattle.th_meant.specs.Keyed.{keyed_at, keyed_in}
use Rattle.th_meant.proofs.keyed.keyed_in.Given as goal

abbrev pub invariant-loop-place : goal.invariant-loop-place
invariant-loop-place l = l.keyed.items ++ flat_map (keyed_at l.entries l.tolerance) (enumerate_from l.place (drop l.place l.rows)) ≡ keyed_in l.entries l.tolerance l.rows
