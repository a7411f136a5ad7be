-- Which lines of a book a change reaches. Places count lines from 0.
use Rattle.std.specs.Prelude.{ℕ, ◌-◌, ◌==◌, ◌||◌, ◌&&◌, Bool, true, false, List, [], ◌∷◌, Option, Some, None, if◌then◌else◌, is_none, nat_lt}
use Rattle.gsi_word.specs.Indexes.{station_easting, station_height, station_northing}
use Rattle.gsi_word.specs.Words.{Parts}
use Rattle.th_book.specs.Lines.{ParsedLine, holds, is_setup, is_sight}
use Rattle.th_book.specs.Places.{last_below, words_at}
use Rattle.th_entries.specs.Entries.{entry_behind, index_of}
use Rattle.th_mend.specs.declared.changes.Change.{Change}
use Rattle.th_mend.specs.declared.changes.What.{What}
use Rattle.th_mend.specs.declared.changes.What.TheVariants.{Height, LeftOut, OtherSign, Sighted, Station, Target}
use Rattle.th_mend.specs.declared.faults.MendKind.{MendKind}
use Rattle.th_mend.specs.declared.faults.MendKind.TheVariants.{BeginsSetup, NoHeight, NoSetup, NoSight}
use Rattle.th_mend.specs.declared.spots.Spot.{Spot}

-- What a place has in common with the others that a change of this kind reaches: of a height, the line of the entry that is in force there (at the
-- line of a setup one of the new setup); of anything else, the place itself.
abbrev pub home : What → List ParsedLine → ℕ → Option ℕ
home (Height kind reach length) parsed place = entry_behind (index_of kind) parsed place
home other parsed place = Some place

abbrev pub are_one : Option ℕ → Option ℕ → Bool
are_one (Some own) (Some other) = own == other
are_one (Some own) None = false
are_one None other = false

-- a block has a coordinate of the station
abbrev pub has_coordinate : List Parts → Bool
has_coordinate words = holds station_easting words || (holds station_northing words || holds station_height words)

abbrev pub is_empty : List Parts → Bool
is_empty [] = true
is_empty (word ∷ words) = false

abbrev pub unless_sight : List Parts → Option MendKind
unless_sight words = if is_sight words then None else Some NoSight

abbrev pub height_fault : List Parts → Option ℕ → Option MendKind
height_fault words entry = if is_empty words || is_none entry then Some NoHeight else None

abbrev pub setup_fault : List Parts → Option MendKind
setup_fault words = if is_setup words then None else Some NoSetup

-- the fault of a change in a line with these words
abbrev pub own_fault : What → List Parts → Option ℕ → Option MendKind
own_fault (Height kind reach length) words entry = height_fault words entry
own_fault (Sighted length) words entry = unless_sight words
own_fault LeftOut words entry = if is_sight words && has_coordinate words then Some BeginsSetup else unless_sight words
own_fault OtherSign words entry = unless_sight words
own_fault (Target name) words entry = unless_sight words
own_fault (Station name) words entry = setup_fault words

-- the place of the line that a change names
abbrev pub place_of : Change → ℕ
place_of change = change.line - 1

-- what is known of a change at its place, once the lines below `bound` were seen: its fault, its home, and the last place of the same home
abbrev pub spot_at : What → List ParsedLine → ℕ → ℕ → Spot
spot_at what parsed place bound = record {
  fault = own_fault what (words_at parsed place) (home what parsed place);
  home = home what parsed place;
  last = last_below (λ other. are_one (home what parsed place) (home what parsed other)) bound;
}

-- the same, if the line of the change is one of these
abbrev pub spot_below : Change → List ParsedLine → ℕ → Option Spot
spot_below change parsed bound =
    if nat_lt (place_of change) bound then Some (spot_at change.what parsed (place_of change) bound) else None
