use Rattle.std.proofs.Common.{◌≡◌, ◌<◌, ◌≤◌, ◌+◌, ℕ}
use Rattle.th_limits.specs.Limits.{max_observations}
use Rattle.th_remarks.specs.Repeats.{shared}
use Rattle.th_remarks.proofs.repeats.repeat_of.Given as goal

abbrev pub invariant-loop-k : goal.invariant-loop-k
invariant-loop-k l = record {
  small : l.count ≤ max_observations;
  at : 0 < l.count → (1 ≤ l.earlier) × (l.earlier ≤ l.k) × (l.count ≡ shared l.observations l.book l.earlier);
  most : (other : ℕ) → 1 ≤ other → other ≤ l.k → shared l.observations l.book other ≤ l.count;
  first : (other : ℕ) → 1 ≤ other → other < l.earlier → shared l.observations l.book other < l.count;
}
