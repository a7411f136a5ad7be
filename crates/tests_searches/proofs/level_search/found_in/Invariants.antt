use Rattle.std.proofs.Common.{◌≡◌, ◌≢◌, ◌+◌, ◌<◌, None, length}
use Rattle.tests_searches.specs.Levels.{AreLevels, last_at, row_at, rows_of}
use Rattle.tests_searches.proofs.level_search.found_in.Given as goal

abbrev pub invariant-loop-number : goal.invariant-loop-number
invariant-loop-number l = record {
  levels : AreLevels l.n l.arcs (rows_of l.levels.items);
  size : length l.levels.items ≡ l.number + 1;
  lowered : 0 < l.number → (l.from < l.n) × (last_at (row_at (rows_of l.levels.items) l.number) l.from ≢ None);
}
