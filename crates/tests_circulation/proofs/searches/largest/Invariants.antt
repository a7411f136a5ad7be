use Rattle.std.proofs.Common.{◌≡◌, ◌≤◌, take}
use Rattle.th_search.specs.Limits.{max_cost}
use Rattle.th_search.specs.Potentials.{largest_cost}
use Rattle.tests_circulation.proofs.searches.largest.Given as goal

abbrev pub invariant-loop-arc : goal.invariant-loop-arc
invariant-loop-arc l = (l.largest ≡ largest_cost (take l.arc-index l.arcs)) × (l.largest ≤ max_cost)
