use Rattle.std.proofs.Common.{◌<◌, ◌≤◌, ℕ, pos, get_or, unsigned_abs}
use Rattle.th_circulation.proofs.flows.are_bounded.Given as goal

abbrev pub invariant-loop-k : goal.invariant-loop-k
invariant-loop-k l = (k : ℕ) → k < l.k → unsigned_abs (get_or l.flows k (pos 0)) ≤ get_or l.weights k 0
