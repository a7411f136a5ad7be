use Rattle.std.proofs.Common.{◌≡◌, ◌++◌, drop}
use Rattle.std.specs.List.{flat_map}
use Rattle.th_names.specs.Nears.{near_at}
use Rattle.th_names.proofs.nears.add_nears.Given as goal

abbrev pub invariant-loop-point : goal.invariant-loop-point
invariant-loop-point l =
    l.nears.items ++ flat_map (near_at l.own.network.now l.naming l.own.limit) (drop l.point-index l.located) ≡ l.fn.nears.items ++ flat_map (near_at l.own.network.now l.naming l.own.limit) l.located
