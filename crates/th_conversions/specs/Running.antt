-- The heights that run at a line of a book with heights.
use Rattle.std.specs.Prelude.{List, Option, Some, None, if◌then◌else◌, option_map}
use Rattle.gsi_word.specs.Indexes.{instrument_height, reflector_height, station_height}
use Rattle.gsi_word.specs.Words.{Parts}
use Rattle.th_book.specs.Due.{latest}
use Rattle.th_book.specs.Lines.{is_setup, length_in}
use Rattle.th_conversions.specs.declared.running.Running.{Running}

-- the setup that some words begin: the height of its station, and no other yet
abbrev pub begun : List Parts → Running
begun words = record { station = length_in station_height words; instrument = None; reflector = None }

-- a setup, updated with the heights of the instrument and of the reflector in some words
abbrev pub with_heights : List Parts → Running → Running
with_heights words running = record {
  station = running.station;
  instrument = latest instrument_height words running.instrument;
  reflector = latest reflector_height words running.reflector;
}

-- the running setup after some words: the one that they begin, or else the previous one, updated with their heights
abbrev pub running_after : Option Running → List Parts → Option Running
running_after running words = option_map (with_heights words) (if is_setup words then Some (begun words) else running)
