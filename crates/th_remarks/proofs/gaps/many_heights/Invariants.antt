use Rattle.std.proofs.Common.{◌≡◌, ℕ, ◌<◌, ◌*◌, pos, unsigned_abs, ◌≤ℤ◌, ◌<ℤ◌}
use Rattle.std.specs.Int.{is_positive}
use Rattle.th_entries.specs.Below.{count_below}
use Rattle.th_network.specs.Limits.{height_limit}
use Rattle.th_remarks.specs.Heights.{gap_at}
use Rattle.th_remarks.proofs.gaps.many_heights.Given as goal

abbrev pub invariant-loop-k : goal.invariant-loop-k
invariant-loop-k l = record {
  points : l.points ≡ count_below (λ place. is_positive (gap_at l.low l.high place)) l.k;
  small : unsigned_abs l.apart < 2 * height_limit;
  positive : pos 0 ≤ℤ l.apart;
  at : pos 0 <ℤ l.apart → (l.place < l.k) × (l.apart ≡ gap_at l.low l.high l.place);
  widest : (other : ℕ) → other < l.k → gap_at l.low l.high other ≤ℤ l.apart;
  first : (other : ℕ) → other < l.place → gap_at l.low l.high other <ℤ l.apart;
}
