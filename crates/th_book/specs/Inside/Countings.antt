-- What one pass over a block's words collects.
use Rattle.std.specs.Prelude.{ℕ, ℤ, ◌&&◌, ◌||◌, not, Bool, false, List, Option, Some, None, Result, find, if◌then◌else◌, is_some, option_and_then, option_map}
use Rattle.std.specs.Option.{option_or}
use Rattle.std.specs.Result.{result_ok}
use Rattle.gsi_word.specs.Indexes.{height_difference, station_easting, station_northing, station_height, reflector_height, instrument_height}
use Rattle.gsi_word.specs.Words.{Parts}
use Rattle.gsi_word.specs.Values.{length_of}
use Rattle.gsi_word.specs.declared.faults.LengthFault.{LengthFault}
use Rattle.gsi_word.specs.declared.faults.LengthFault.TheVariants.{BadNumber, BadUnit, TooLarge}
use Rattle.th_book.specs.Lines.{counts_for, holds}
use Rattle.th_book.specs.Faults.{is_length, is_refused, repeats_word, some_length}
use Rattle.th_book.specs.declared.countings.Counted.{Counted}
use Rattle.th_book.specs.declared.entries.Entered.{Entered}
use Rattle.th_book.specs.declared.faults.BookKind.{BookKind}
use Rattle.th_book.specs.declared.faults.BookKind.TheVariants as book_kind

-- the length of the first word that counts for an index, or why it is refused: none if no word does
abbrev pub first_length : ℕ → List Parts → Option (Result ℤ LengthFault)
first_length index words = option_map length_of (find (counts_for index) words)

-- a word's length is refused with this fault
abbrev pub is_refused_for : LengthFault → Parts → Bool
is_refused_for fault word = is_refused fault (length_of word)

-- what the counting words of a block amount to
abbrev pub counted_in : List Parts → Counted
counted_in words = record {
  sighted = first_length height_difference words;
  easting = holds station_easting words;
  northing = holds station_northing words;
  height = holds station_height words;
  reflector = first_length reflector_height words;
  instrument = first_length instrument_height words;
  repeated = repeats_word words;
  bad_number = some_length (is_refused_for BadNumber) words;
  bad_unit = some_length (is_refused_for BadUnit) words;
  too_large = some_length (is_refused_for TooLarge) words;
}

-- what a block amounts to of which no word counts
abbrev pub nothing_counted : Counted
nothing_counted = record {
  sighted = None;
  easting = false;
  northing = false;
  height = false;
  reflector = None;
  instrument = None;
  repeated = false;
  bad_number = false;
  bad_unit = false;
  too_large = false;
}

-- the first length so far: a counting word's length is kept only if none was kept before
abbrev pub first_kept : Bool → Option (Result ℤ LengthFault) → Parts → Option (Result ℤ LengthFault)
first_kept counts kept word = if counts then option_or kept (Some (length_of word)) else kept

-- a word counts for an index for which an earlier word counted
abbrev pub repeats : Parts → Counted → Bool
repeats word counted =
    (counts_for height_difference word && is_some counted.sighted)
    || ((counts_for station_easting word && counted.easting)
    || ((counts_for station_northing word && counted.northing)
    || ((counts_for station_height word && counted.height)
    || ((counts_for reflector_height word && is_some counted.reflector)
    || (counts_for instrument_height word && is_some counted.instrument)))))

-- what was counted is a sight if there was a height difference, and a setup if there was a coordinate of the station and no height difference
abbrev pub counts_sight : Counted → Bool
counts_sight counted = is_some counted.sighted

abbrev pub counts_setup : Counted → Bool
counts_setup counted = not (counts_sight counted) && (counted.easting || (counted.northing || counted.height))

-- the first kind of fault of the lengths that were counted
abbrev pub counted_fault : Counted → Option BookKind
counted_fault counted =
    if counted.bad_number then Some book_kind.BadNumber
    else (if counted.bad_unit then Some book_kind.BadUnit
    else (if counted.too_large then Some book_kind.TooLarge
    else None))

-- what is counted after one more length was checked
abbrev pub with_defect : Result ℤ LengthFault → Counted → Counted
with_defect length counted = record counted {
  bad_number = counted.bad_number || is_refused BadNumber length;
  bad_unit = counted.bad_unit || is_refused BadUnit length;
  too_large = counted.too_large || is_refused TooLarge length;
}

-- what is counted after one more word
abbrev pub counted_with : Parts → Counted → Counted
counted_with word counted = record {
  sighted = first_kept (counts_for height_difference word) counted.sighted word;
  easting = counted.easting || counts_for station_easting word;
  northing = counted.northing || counts_for station_northing word;
  height = counted.height || counts_for station_height word;
  reflector = first_kept (counts_for reflector_height word) counted.reflector word;
  instrument = first_kept (counts_for instrument_height word) counted.instrument word;
  repeated = counted.repeated || repeats word counted;
  bad_number = counted.bad_number || (is_length word && is_refused_for BadNumber word);
  bad_unit = counted.bad_unit || (is_length word && is_refused_for BadUnit word);
  too_large = counted.too_large || (is_length word && is_refused_for TooLarge word);
}

-- the lengths that were counted and can be read, with the names of a station and a target
abbrev pub lengths_with : Option (List ℕ) → Option (List ℕ) → Counted → Entered
lengths_with station target counted = record {
  station = station;
  target = target;
  sighted = option_and_then result_ok counted.sighted;
  reflector = option_and_then result_ok counted.reflector;
  instrument = option_and_then result_ok counted.instrument;
}
