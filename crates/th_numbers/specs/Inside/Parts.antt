-- The parts of a network, whose points have one label.
use Rattle.std.specs.Prelude.{◌≡◌, ◌≢◌, ◌<◌, ◌==◌, ℕ, ℤ, List, Contains, Some, get_or, if◌then◌else◌, length, slice_get}
use Rattle.th_observations.specs.Observed.{Observed}
use Rattle.th_network.specs.Networks.{Survey, heights_of, points_of}
use Rattle.th_network.specs.Walks.{Walk}
use Rattle.th_points.specs.Places.{place_of}

-- the label of a point
abbrev pub label_of : Survey → List ℕ → List ℕ → ℕ
label_of survey labels name = get_or labels (place_of (points_of survey) name) 0

-- Each point has a label. The ends of each of the first so many observations have one label, and a walk leads from a point to each with its label.
pub record AreParts (survey : Survey) (count : ℕ) (labels : List ℕ) : Type 0 where
  pub each : length labels ≡ length (points_of survey)
  pub joined : (k : ℕ) (o : Observed) → k < count → slice_get survey.observations k ≡ Some o → label_of survey labels o.station ≡ label_of survey labels o.target
  pub walked : (a b : List ℕ) → Contains (points_of survey) a → Contains (points_of survey) b → label_of survey labels a ≡ label_of survey labels b → Walk survey.observations a b

-- so many labels, each another one
pub record AreApart (count : ℕ) (labels : List ℕ) : Type 0 where
  pub each : length labels ≡ count
  pub own : (v : ℕ) → v < count → get_or labels v 0 ≡ v

-- one label in place of another
abbrev pub relabelled : ℕ → ℕ → ℕ → ℕ
relabelled from to label = if label == from then to else label

-- another point with the label of the point at a place is a benchmark
pub record IsOther (survey : Survey) (labels : List ℕ) (place k : ℕ) : Type 0 where
  pub other : k ≢ place
  pub joined : get_or labels k 0 ≡ get_or labels place 0
  pub height : ℤ
  pub fixed : slice_get (heights_of survey) k ≡ Some (Some height)

abbrev pub HasOther : Survey → List ℕ → ℕ → Type 0
HasOther survey labels place = (k : ℕ) × (k < length labels) × IsOther survey labels place k
