-- Where the sights of an entry are among observations.
use Rattle.std.specs.Prelude.{◌≡◌, ℕ, ◌<◌, ◌≤◌, false, true, List, length, slice_index_or}
use Rattle.th_observations.specs.Observed.{Observed}
use Rattle.th_reliability.specs.Sights.{in_sights}
use Rattle.th_reliability.specs.declared.sights.Sights.{Sights}

-- a run contains all of the sights; it goes from its first place up to its second, without the second, and places count from 0
pub record HoldsSights (observations : List Observed) (sights : Sights) (run : ℕ × ℕ) : Type 0 where
  pub ordered : run.0 ≤ run.1
  pub within : run.1 ≤ length observations
  pub below : (k : ℕ) (d : Observed) → k < run.0 → in_sights sights (slice_index_or observations k d) ≡ false
  pub above : (k : ℕ) (d : Observed) → run.1 ≤ k → k < length observations → in_sights sights (slice_index_or observations k d) ≡ false

-- a run contains all of the sights, and nothing else
pub record AreTheSights (observations : List Observed) (sights : Sights) (run : ℕ × ℕ) : Type 0 where
  pub all : HoldsSights observations sights run
  pub alone : (k : ℕ) (d : Observed) → run.0 ≤ k → k < run.1 → in_sights sights (slice_index_or observations k d) ≡ true
