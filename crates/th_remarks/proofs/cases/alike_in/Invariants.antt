use Rattle.std.proofs.Common.{◌≡◌, ◌++◌, drop, take}
use Rattle.th_network.specs.Networks.{points_of}
use Rattle.th_remarks.specs.Alike.{alike_after, alike_in}
use Rattle.th_remarks.proofs.cases.alike_in.Given as goal

abbrev pub invariant-loop-k : goal.invariant-loop-k
invariant-loop-k l =
    l.found.items ++ alike_after l.network.observations (take l.k (points_of l.network)) (drop l.k (points_of l.network)) ≡ alike_in l.network
