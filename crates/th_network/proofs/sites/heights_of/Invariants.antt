use Rattle.std.proofs.Common.{◌≡◌, ◌≤◌, All, map, pos, take, unsigned_abs, unwrap_or}
use Rattle.th_tables.specs.Rows.{height_of}
use Rattle.th_units.specs.Limits.{max_len}
use Rattle.th_network.proofs.sites.heights_of.Given as goal

abbrev pub invariant-loop-name : goal.invariant-loop-name
invariant-loop-name l = record {
  value : l.heights.items ≡ map (height_of l.benchmarks) (take l.name-index l.names);
  in_range : All (λ height. unsigned_abs (unwrap_or height (pos 0)) ≤ max_len) l.heights.items;
}
