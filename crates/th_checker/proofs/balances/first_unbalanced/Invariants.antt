use Rattle.std.proofs.Common.{◌≡◌, drop}
use Rattle.th_checker.specs.Inside.Tests.{first_place}
use Rattle.th_checker.proofs.balances.first_unbalanced.Given as goal

abbrev pub invariant-loop-k : goal.invariant-loop-k
invariant-loop-k l = first_place l.benchmarks (drop l.k l.points) (drop l.k l.balances) ≡ first_place l.benchmarks l.points l.balances
