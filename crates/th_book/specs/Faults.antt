use Rattle.std.specs.Prelude.{ℕ, ℤ, ◌+◌, ◌++◌, ◌==◌, ◌&&◌, ◌||◌, not, Bool, true, false, List, [], ◌∷◌, Option, Some, None, Result, Ok, Err, if◌then◌else◌, count_by, nat_lt, option_map, is_none, is_some, slice_get, slice_index, length}
use Rattle.std.specs.List.{list_any, filter_map, range_with_len}
use Rattle.th_units.specs.Lengths.{are_digits}
use Rattle.th_units.specs.Units.{unit_of}
use Rattle.gsi_word.specs.Indexes.{point_number, height_difference, station_easting, station_northing, station_height, reflector_height, instrument_height}
use Rattle.gsi_word.specs.Words.{Parts}
use Rattle.gsi_word.specs.Names.{same_name}
use Rattle.gsi_word.specs.Values.{length_of}
use Rattle.gsi_word.specs.declared.faults.LengthFault.{LengthFault}
use Rattle.gsi_word.specs.declared.faults.LengthFault.TheVariants as length_fault
use Rattle.th_book.specs.Lines.{ParsedLine, counts_for, is_setup, is_sight, point_name}
use Rattle.th_book.specs.Places.{last_with, line_at, setup_of, station_at}
use Rattle.th_book.specs.declared.faults.BookKind.{BookKind}
use Rattle.th_book.specs.declared.faults.BookKind.TheVariants.{Block, RepeatedWord, NoPointNumber, BadName, BadNumber, BadUnit, TooLarge, SightBeforeSetup, NoInstrumentHeight, NoReflectorHeight, SightToItself}
use Rattle.th_book.specs.declared.faults.BookFault.{BookFault}

-- the indexes for which a block may have only one counting word each
abbrev pub single_indexes : List ℕ
single_indexes = height_difference ∷ station_easting ∷ station_northing ∷ station_height ∷ reflector_height ∷ instrument_height ∷ []

-- two or more words count for the same one of these indexes
abbrev pub repeats_word : List Parts → Bool
repeats_word words = list_any (λ index. nat_lt 1 (count_by (counts_for index) words)) single_indexes

-- a word counts for a length: a height difference, a reflector height or an instrument height
abbrev pub is_length : Parts → Bool
is_length word = counts_for height_difference word || (counts_for reflector_height word || counts_for instrument_height word)

-- some length of a block has this defect
abbrev pub some_length : (Parts → Bool) → List Parts → Bool
some_length defect words = list_any (λ word. is_length word && defect word) words

abbrev pub has_bad_number : Parts → Bool
has_bad_number word = not (are_digits word.body)

abbrev pub has_bad_unit : Parts → Bool
has_bad_unit word = is_none (unit_of (slice_index word.info 3))

-- two faults of a length are the same
abbrev pub is_fault : LengthFault → LengthFault → Bool
is_fault length_fault.BadNumber length_fault.BadNumber = true
is_fault length_fault.BadUnit length_fault.BadUnit = true
is_fault length_fault.TooLarge length_fault.TooLarge = true
is_fault _ _ = false

-- a length is refused with this fault
abbrev pub is_refused : LengthFault → Result ℤ LengthFault → Bool
is_refused fault (Ok length) = false
is_refused fault (Err own) = is_fault fault own

-- a length is too large; this applies only if its number and its unit are good
abbrev pub is_too_large : Parts → Bool
is_too_large word = is_refused length_fault.TooLarge (length_of word)

-- the first word of a block has the index of a point number; its information does not matter
abbrev pub begins_with_point : List Parts → Bool
begins_with_point [] = false
begins_with_point (word ∷ words) = word.index == point_number

-- both names are present, and they are the same
abbrev pub are_one : Option (List ℕ) → Option (List ℕ) → Bool
are_one (Some name) (Some other) = same_name name other
are_one (Some name) None = false
are_one None other = false

-- what a sight has, before it or in it: a setup, an instrument height and a reflector height since that setup, and the station's name
pub record Standing : Type 0 where
  pub setup : Bool
  pub instrument : Bool
  pub reflector : Bool
  pub station : Option (List ℕ)

-- what the sight at a place has
abbrev pub standing_at : List ParsedLine → ℕ → Standing
standing_at parsed place = record {
  setup = is_some (setup_of parsed place);
  instrument = is_some (last_with instrument_height parsed place);
  reflector = is_some (last_with reflector_height parsed place);
  station = station_at parsed place;
}

-- a row of a table of faults: whether the fault is present, and its kind
abbrev pub Row : Type 0
Row = Bool × BookKind

-- the kind of the first row that applies
abbrev pub first_applying : List Row → Option BookKind
first_applying [] = None
first_applying (row ∷ rows) = if row.0 then Some row.1 else first_applying rows

-- the table of the faults of a block's point; they apply only to a sight or a setup, for which `named` is true
abbrev pub point_faults : Bool → List Parts → List Row
point_faults named words =
    (named && not (begins_with_point words), NoPointNumber)
    ∷ (named && is_none (point_name words), BadName)
    ∷ []

-- the table of the faults of lengths
abbrev pub length_faults : List Parts → List Row
length_faults words =
    (some_length has_bad_number words, BadNumber)
    ∷ (some_length has_bad_unit words, BadUnit)
    ∷ (some_length is_too_large words, TooLarge)
    ∷ []

-- the table of the faults that a block's own words have
abbrev pub own_faults : List Parts → List Row
own_faults words = (repeats_word words, RepeatedWord) ∷ (point_faults (is_sight words || is_setup words) words ++ length_faults words)

-- the table of the faults of a sight to a target, given what the sight has
abbrev pub sight_faults : Standing → Option (List ℕ) → List Row
sight_faults standing target =
    (not standing.setup, SightBeforeSetup)
    ∷ (not standing.instrument, NoInstrumentHeight)
    ∷ (not standing.reflector, NoReflectorHeight)
    ∷ (are_one standing.station target, SightToItself)
    ∷ []

-- the table of the faults of a block: those of its own words, then, for a sight, those of its place in the book
abbrev pub block_faults : Standing → List Parts → List Row
block_faults standing words = own_faults words ++ (if is_sight words then sight_faults standing (point_name words) else [])

-- the first kind of fault of a parsed line
abbrev pub kind_of : Standing → ParsedLine → Option BookKind
kind_of standing (Err fault) = Some (Block fault)
kind_of standing (Ok None) = None
kind_of standing (Ok (Some block)) = first_applying (block_faults standing block.words)

-- the first kind of fault of the line at a place
abbrev pub kind_at : List ParsedLine → ℕ → Option BookKind
kind_at parsed place = kind_of (standing_at parsed place) (line_at parsed place)

-- a fault of this kind in the line at a place; lines count from 1
abbrev pub fault_in : ℕ → BookKind → BookFault
fault_in place kind = record { line = place + 1; kind = kind }

-- the fault of the line at a place
abbrev pub fault_at : List ParsedLine → ℕ → Option BookFault
fault_at parsed place = option_map (fault_in place) (kind_at parsed place)

-- the faults of a book's lines, in their order
abbrev pub faults_of : List ParsedLine → List BookFault
faults_of parsed = filter_map (fault_at parsed) (range_with_len 0 (length parsed))

-- the fault that a book reports: that of the first line that has one
abbrev pub first_fault : List ParsedLine → Option BookFault
first_fault parsed = slice_get (faults_of parsed) 0
