-- What the height sights of a book say, in the order of their lines.
use Rattle.std.specs.Prelude.{◌≡◌, ℕ, ℤ, ◌-ℤ◌, List, [], ◌∷◌, Result, Ok, Err, if◌then◌else◌, map, pos}
use Rattle.gsi_word.specs.Indexes.{station_height, target_height}
use Rattle.gsi_word.specs.Words.{Parts}
use Rattle.th_book.specs.Books.{known, known_name}
use Rattle.th_book.specs.Lines.{ParsedLine, is_setup, length_in, point_name, words_in}
use Rattle.th_observations.specs.Observed.{Observed}
use Rattle.th_conversions.specs.Sights.{is_height_sight}

-- a point, and its height in a book with heights
pub record Point : Type 0 where
  pub name : List ℕ
  pub height : ℤ

-- before any setup
abbrev pub nowhere : Point
nowhere = record { name = []; height = pos 0 }

-- a height sight: its station, its target, and the height of the target above the station
pub record HeightSight : Type 0 where
  pub station : List ℕ
  pub target : List ℕ
  pub difference : ℤ

-- the point that some words begin with, whose height is in a word of this index
abbrev pub point_in : ℕ → List Parts → Point
point_in index words = record { name = known_name (point_name words); height = known (length_in index words) }

-- the sight of a target from a station: its height less that of the station
abbrev pub sight_of : Point → Point → HeightSight
sight_of station target = record { station = station.name; target = target.name; difference = target.height -ℤ station.height }

-- the height sights of lines, of which each is from the station of the last setup before it; the running station comes first
abbrev pub sights_from : Point → List ParsedLine → List HeightSight
sights_from station [] = []
sights_from station (line ∷ lines) =
    if is_height_sight (words_in line) then sight_of station (point_in target_height (words_in line)) ∷ sights_from station lines
    else sights_from (if is_setup (words_in line) then point_in station_height (words_in line) else station) lines

-- an observation as a height sight
abbrev pub sight_seen : Observed → HeightSight
sight_seen observed = record { station = observed.station; target = observed.target; difference = observed.difference }

-- the result of a book is observations of exactly these sights, in order
abbrev pub AreSeenAs : {E : Type 0} → Result (List Observed) E → List HeightSight → Type 0
AreSeenAs (Ok observations) sights = map sight_seen observations ≡ sights
AreSeenAs (Err fault) sights = ⊥
