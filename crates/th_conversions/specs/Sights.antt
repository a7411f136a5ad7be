-- Which blocks of a book with heights are sights, and what is wrong with a block.
use Rattle.std.specs.Prelude.{◌&&◌, ◌||◌, ℕ, Bool, false, List, [], ◌∷◌, Option, if◌then◌else◌}
use Rattle.std.specs.List.{list_any}
use Rattle.gsi_word.specs.Indexes.{horizontal_angle, horizontal_distance, instrument_height, reflector_height, slope_distance, station_height, target_height, vertical_angle}
use Rattle.gsi_word.specs.Values.{length_of}
use Rattle.gsi_word.specs.Words.{Parts}
use Rattle.gsi_word.specs.declared.faults.LengthFault.{LengthFault}
use Rattle.gsi_word.specs.declared.faults.LengthFault.TheVariants as length_fault
use Rattle.th_book.specs.Faults.{is_refused}
use Rattle.th_book.specs.Lines.{counts_for, holds, is_sight}
use Rattle.th_book.specs.declared.faults.BookKind.TheVariants.{BadNumber, BadUnit, RepeatedWord, TooLarge}
use Rattle.th_conversions.specs.HeightFaults.{Row, first_applying}
use Rattle.th_conversions.specs.declared.height_faults.HeightKind.{HeightKind}
use Rattle.th_conversions.specs.declared.height_faults.HeightKind.TheVariants.{Book, HasDifference}

-- something was measured: an angle or a distance
abbrev pub is_measured : List Parts → Bool
is_measured words = holds horizontal_angle words || (holds vertical_angle words || (holds slope_distance words || holds horizontal_distance words))

-- a height sight is a block with a height of the target where something was measured
abbrev pub is_height_sight : List Parts → Bool
is_height_sight words = holds target_height words && is_measured words

-- two words count for an index
abbrev pub repeats : ℕ → List Parts → Bool
repeats index [] = false
repeats index (word ∷ words) = if counts_for index word then holds index words else repeats index words

-- a word counts for a height: of a target, of a station, of a reflector or of an instrument
abbrev pub is_height : Parts → Bool
is_height word =
    counts_for target_height word || (counts_for station_height word || (counts_for reflector_height word || counts_for instrument_height word))

-- some height of a block is refused with this fault
abbrev pub some_height : LengthFault → List Parts → Bool
some_height fault words = list_any (λ word. is_height word && is_refused fault (length_of word)) words

-- The table of the faults that a block of a book with heights has, beside those of a book. A word 33 is one: the block would have another.
abbrev pub height_faults : List Parts → List Row
height_faults words =
    (is_sight words, HasDifference)
    ∷ (is_height_sight words && repeats target_height words, Book RepeatedWord)
    ∷ (some_height length_fault.BadNumber words, Book BadNumber)
    ∷ (some_height length_fault.BadUnit words, Book BadUnit)
    ∷ (some_height length_fault.TooLarge words, Book TooLarge)
    ∷ []

-- the first kind of these
abbrev pub height_fault : List Parts → Option HeightKind
height_fault words = first_applying (height_faults words)
