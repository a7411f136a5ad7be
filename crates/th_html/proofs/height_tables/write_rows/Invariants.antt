use Rattle.std.proofs.Common.{◌≡◌, ◌++◌, drop}
use Rattle.std.specs.List.{enumerate_from, flat_map}
use Rattle.th_html.specs.Heights.{numbered_height}
use Rattle.th_html.proofs.height_tables.write_rows.Given as goal

abbrev pub invariant-loop-k : goal.invariant-loop-k
invariant-loop-k l = l.page ++ flat_map (numbered_height l.are_moved) (enumerate_from l.k (drop l.k l.points)) ≡ l.fn.page ++ flat_map (numbered_height l.are_moved) (enumerate_from 0 l.points)
