use Rattle.std.specs.Prelude.{ℕ, ℤ, ◌==◌, ◌&&◌, ◌||◌, not, Bool, false, List, [], ◌∷◌, Option, Some, None, Result, Ok, Err, find, option_and_then}
use Rattle.std.specs.List.{list_any}
use Rattle.std.specs.Option.{option_map_or}
use Rattle.std.specs.Result.{result_ok}
use Rattle.gsi_word.specs.Indexes.{height_difference, station_easting, station_northing, station_height}
use Rattle.gsi_word.specs.Words.{Parts}
use Rattle.gsi_word.specs.Names.{name_of}
use Rattle.gsi_word.specs.Values.{length_of, two_digit}
use Rattle.gsi_block.specs.Blocks.{BlockParts}
use Rattle.gsi_block.specs.declared.faults.BlockFault.{BlockFault}

-- a parsed line: blank, a block, or the fault for which it is neither
abbrev pub ParsedLine : Type 0
ParsedLine = Result (Option BlockParts) BlockFault

-- the words of a line's block; none if the line is blank or not a block
abbrev pub words_in : ParsedLine → List Parts
words_in (Ok (Some block)) = block.words
words_in (Ok None) = []
words_in (Err fault) = []

-- a word counts for an index if it has that index and its position 3 is a dot
abbrev pub counts_for : ℕ → Parts → Bool
counts_for index word = option_map_or (λ own. own == index) (two_digit word) false

-- a block holds an index if one of its words counts for it
abbrev pub holds : ℕ → List Parts → Bool
holds index words = list_any (counts_for index) words

-- a sight is a block with a height difference
abbrev pub is_sight : List Parts → Bool
is_sight words = holds height_difference words

-- a setup is a block with a coordinate of the station that is not a sight
abbrev pub is_setup : List Parts → Bool
is_setup words = not (is_sight words) && (holds station_easting words || (holds station_northing words || holds station_height words))

-- the name of the point that a sight or a setup begins with
abbrev pub point_name : List Parts → Option (List ℕ)
point_name [] = None
point_name (word ∷ words) = name_of word.body

-- the length of the first word that counts for an index; none if there is no such word or its length has a fault
abbrev pub length_in : ℕ → List Parts → Option ℤ
length_in index words = option_and_then (λ word. result_ok (length_of word)) (find (counts_for index) words)
