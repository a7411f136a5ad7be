use Rattle.std.proofs.Common.{ℤ, ◌+ℤ◌, ◌≤ℤ◌, List}
use Rattle.th_search.specs.Potentials.{IsFeasible, value_at}
use Rattle.th_circulation.proofs.proposals.closes_below_zero.Given as goal

abbrev pub invariant-loop-arc : goal.invariant-loop-arc
invariant-loop-arc l = (values : List ℤ) → IsFeasible l.arcs values → value_at values l.vertex ≤ℤ (value_at values l.first.tail +ℤ l.cost)
