use Rattle.std.proofs.Common.{◌≡◌, ◌++◌, drop}
use Rattle.std.specs.List.{flat_map}
use Rattle.th_page.specs.Residuals.{residual_row}
use Rattle.th_page.proofs.residuals.write_rows.Given as goal

abbrev pub invariant-loop-sight : goal.invariant-loop-sight
invariant-loop-sight l = l.page ++ flat_map residual_row (drop l.sight-index l.sights) ≡ l.fn.page ++ flat_map residual_row l.sights
