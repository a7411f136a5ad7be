use Rattle.std.proofs.Common.{◌≤◌, ◌*◌, ℕ, pos, get_or, take, unsigned_abs}
use Rattle.std.specs.List.{zip}
use Rattle.th_checker.specs.Inside.Tests.{AreBalances}
use Rattle.th_checker.proofs.balances.add_all.Given as goal
use Rattle.th_certificate.specs.Certified.{flow_limit}

abbrev pub invariant-loop-i : goal.invariant-loop-i
invariant-loop-i l = record {
  sums : AreBalances l.tested.points (take l.i (zip l.tested.ends.now l.tested.flows.now)) l.balances;
  small : (place : ℕ) → unsigned_abs (get_or l.balances place (pos 0)) ≤ l.i * (2 * flow_limit);
}
