-- Points with more than one best height.
use Rattle.std.specs.Prelude.{◌≡◌, ◌<◌, ℕ, ℤ, pos, ◌-ℤ◌, ◌<ℤ◌, ◌≤ℤ◌, List, Option, Some, None, length, slice_get, slice_index_or}
use Rattle.std.specs.Int.{is_positive}
use Rattle.th_entries.specs.Below.{count_below}
use Rattle.th_network.specs.Networks.{Survey, points_of}
use Rattle.th_remarks.specs.declared.heights.ManyHeights.{ManyHeights}

-- how much the highest height of a point, by its place, is above its lowest
abbrev pub gap_at : List ℤ → List ℤ → ℕ → ℤ
gap_at low high place = slice_index_or high place (pos 0) -ℤ slice_index_or low place (pos 0)

-- the note says how many points have more than one height, and where the gap is widest: at the first such point
pub record IsNoteOf (names : List (List ℕ)) (low high : List ℤ) (note : ManyHeights) : Type 0 where
  pub points : note.points ≡ count_below (λ place. is_positive (gap_at low high place)) (length low)
  pub place : ℕ
  pub within : place < length low
  pub name : slice_get names place ≡ Some note.name
  pub apart : note.apart ≡ gap_at low high place
  pub widest : (other : ℕ) → other < length low → gap_at low high other ≤ℤ note.apart
  pub first : (other : ℕ) → other < place → gap_at low high other <ℤ note.apart

-- the note of a survey with these lowest and highest heights in point order; there is none if no gap is above the limit
abbrev pub IsHeightsNote : Survey → List ℤ → List ℤ → ℤ → Option ManyHeights → Type 0
IsHeightsNote survey low high limit None = (place : ℕ) → place < length low → pos 0 <ℤ gap_at low high place → gap_at low high place ≤ℤ limit
IsHeightsNote survey low high limit (Some note) = (pos 0 <ℤ note.apart) × (limit <ℤ note.apart) × IsNoteOf (points_of survey) low high note
