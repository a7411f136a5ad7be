-- Sums of flows.
use Rattle.std.specs.Prelude.{◌≡◌, ℕ, ◌+◌, ◌*◌, ◌≤◌, ℤ, pos, ◌-ℤ◌, List, drop, length, map, slice_index_or, take, unsigned_abs, zip}
use Rattle.th_network.specs.Circulation.{total_by}
use Rattle.th_network.specs.Limits.{max_observations}
use Rattle.th_tables.specs.Limits.{max_weight}

-- what the flows before a place come to together
abbrev pub sum_before : List ℤ → ℕ → ℤ
sum_before flows place = total_by (λ flow. flow) (take place flows)

-- what the flows from a place up to another come to together, without that at the second
abbrev pub sum_between : List ℤ → ℕ → ℕ → ℤ
sum_between flows start end = sum_before flows end -ℤ sum_before flows start

-- Sums of the flows before each place, the one behind the last included: one more than there are flows.
pub record AreSums (flows sums : List ℤ) : Type 0 where
  pub each : length sums ≡ length flows + 1
  pub before : (k : ℕ) → k ≤ length flows → slice_index_or sums k (pos 0) ≡ sum_before flows k
  pub small : (k : ℕ) → k ≤ length flows → unsigned_abs (slice_index_or sums k (pos 0)) ≤ max_weight * max_observations

-- the flows that have these sums: the differences of neighbours
abbrev pub flows_of : List ℤ → List ℤ
flows_of sums = map (λ pair. pair.1 -ℤ pair.0) (zip sums (drop 1 sums))
