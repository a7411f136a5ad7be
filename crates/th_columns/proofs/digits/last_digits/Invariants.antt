use Rattle.std.proofs.Common.{◌≡◌, ◌-◌, ◌++◌, drop, length}
use Rattle.th_units.specs.Metres.{last_digits}
use Rattle.th_columns.proofs.digits.last_digits.Given as goal

abbrev pub invariant-loop-count : goal.invariant-loop-count
invariant-loop-count g l = record {
  long : length l.digits ≡ g.row.N;
  written : last_digits (g.row.N - l.count) l.rest ++ drop (g.row.N - l.count) l.digits ≡ last_digits g.row.N l.number;
}
