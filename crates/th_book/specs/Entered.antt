-- What a block enters into its book, if its own words have no fault.
use Rattle.std.specs.Prelude.{◌≡◌, List, Some, None, Ok, Err, if◌then◌else◌, is_some}
use Rattle.gsi_word.specs.Indexes.{height_difference, reflector_height, instrument_height}
use Rattle.gsi_word.specs.Words.{Parts}
use Rattle.th_book.specs.Lines.{ParsedLine, holds, is_setup, is_sight, length_in, point_name}
use Rattle.th_book.specs.Faults.{first_applying, own_faults}
use Rattle.th_book.specs.declared.entries.Entered.{Entered}

-- the station if the words are a setup, the target if they are a sight, and the lengths
abbrev pub entered_by : List Parts → Entered
entered_by words = record {
  station = if is_setup words then point_name words else None;
  target = if is_sight words then point_name words else None;
  sighted = length_in height_difference words;
  reflector = length_in reflector_height words;
  instrument = length_in instrument_height words;
}

-- what a blank line enters
abbrev pub nothing : Entered
nothing = record { station = None; target = None; sighted = None; reflector = None; instrument = None }

-- nothing is missing from what some words enter: the station if they are a setup, the target if
-- they are a sight, and each reflector or instrument height that they hold
pub record IsWhole (words : List Parts) (entered : Entered) : Type 0 where
  pub station : is_some entered.station ≡ is_setup words
  pub target : is_some entered.target ≡ is_sight words
  pub reflector : is_some entered.reflector ≡ holds reflector_height words
  pub instrument : is_some entered.instrument ≡ holds instrument_height words

-- some words have no fault of their own, and nothing is missing from what they enter
pub record AreSound (words : List Parts) : Type 0 where
  pub faultless : first_applying (own_faults words) ≡ None
  pub whole : IsWhole words (entered_by words)

-- a line is blank, or it is a block of sound words
abbrev pub IsSound : ParsedLine → Type 0
IsSound (Err fault) = ⊥
IsSound (Ok None) = Unit {0}
IsSound (Ok (Some block)) = AreSound block.words
