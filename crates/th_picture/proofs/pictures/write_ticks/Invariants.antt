use Rattle.std.proofs.Common.{◌≡◌, ◌++◌, drop}
use Rattle.std.specs.List.{flat_map}
use Rattle.th_picture.specs.Pictures.{tick_at}
use Rattle.th_picture.proofs.pictures.write_ticks.Given as goal

abbrev pub invariant-loop-at : goal.invariant-loop-at
invariant-loop-at l = l.page ++ flat_map (tick_at l.scale) (drop l.at-index l.lines) ≡ l.fn.page ++ flat_map (tick_at l.scale) l.lines
