use Rattle.std.proofs.Common.{◌≡◌, ◌++◌, drop, map}
use Rattle.std.specs.List.{enumerate_from}
use Rattle.th_html.specs.Shown.{shown_point}
use Rattle.th_html.proofs.shown.shown_points.Given as goal

abbrev pub invariant-loop-k : goal.invariant-loop-k
invariant-loop-k l = l.points.items ++ map (shown_point l.moved) (enumerate_from l.k (drop l.k l.rows)) ≡ map (shown_point l.moved) (enumerate_from 0 l.rows)
