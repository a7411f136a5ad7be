use Rattle.std.proofs.Common.{◌≡◌, ◌++◌, drop}
use Rattle.std.specs.List.{flat_map}
use Rattle.th_page.specs.Verdicts.{words_of_point}
use Rattle.th_page.proofs.meanings.write_points.Given as goal

abbrev pub invariant-loop-point : goal.invariant-loop-point
invariant-loop-point l = l.page ++ flat_map words_of_point (drop l.point-index l.points) ≡ l.fn.page ++ flat_map words_of_point l.points
