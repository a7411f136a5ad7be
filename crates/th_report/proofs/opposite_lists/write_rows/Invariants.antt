use Rattle.std.proofs.Common.{◌≡◌, ◌++◌, drop}
use Rattle.std.specs.List.{flat_map}
use Rattle.th_report.specs.Reports.{opposite_line}
use Rattle.th_report.proofs.opposite_lists.write_rows.Given as goal

abbrev pub invariant-loop-opposite : goal.invariant-loop-opposite
invariant-loop-opposite l =
    l.page ++ flat_map (opposite_line l.observations) (drop l.opposite-index l.opposites) ≡ l.fn.page ++ flat_map (opposite_line l.observations) l.opposites
