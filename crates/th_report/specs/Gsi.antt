-- Heights as GSI-16 blocks.
use Rattle.std.specs.Prelude.{ℕ, ℤ, ◌+◌, ◌-◌, ◌/◌, ◌==◌, ◌&&◌, not, Bool, false, List, [], ◌∷◌, ◌++◌, codes, if◌then◌else◌, length, replicate, unsigned_abs, Option, Some, None, Result, Ok}
use Rattle.std.specs.Int.{is_negative}
use Rattle.std.specs.List.{enumerate_from, flat_map}
use Rattle.th_units.specs.Metres.{last_digits}
use Rattle.gsi_word.specs.Indexes.{point_number, target_height}
use Rattle.gsi_word.specs.Names.{name_of}
use Rattle.gsi_word.specs.Words.{Parts, parts}
use Rattle.gsi_word.specs.declared.words.Width.TheVariants.{Sixteen}
use Rattle.gsi_block.specs.Blocks.{BlockParts, block_at}
use Rattle.gsi_block.specs.declared.faults.BlockFault.{BlockFault}
use Rattle.gsi_block.specs.Writing.{block_text}
use Rattle.th_network.specs.Networks.{Survey, points_of}

-- a name with zeros before it, 16 bytes in all: the data of a word 11 of GSI-16
abbrev pub padded_name : List ℕ → List ℕ
padded_name name = replicate (16 - length name) 48 ++ name

-- the word 11 of a point: its number in four digits, and its name
unfoldable pub number_word : ℕ → List ℕ → Parts
number_word number name = parts point_number (last_digits 4 number) false (padded_name name)

-- the size of a height in 1/100 mm, rounded to the nearest, halves up
abbrev pub hundredths : ℤ → ℕ
hundredths height = (unsigned_abs height + 500) / 1000

-- whether a height is printed with a minus: it is below zero and not rounded to zero
abbrev pub has_minus : ℤ → Bool
has_minus height = is_negative height && not (hundredths height == 0)

-- the word 83 of a height: calculated (mode 4), in units of 1/100 mm (unit 8), and 16 digits
unfoldable pub height_word : ℤ → Parts
height_word height = parts target_height (codes "..48") (has_minus height) (last_digits 16 (hundredths height))

-- the block of a point
abbrev pub point_block : ℕ → List ℕ → ℤ → BlockParts
point_block number name height = record { width = Sixteen; words = number_word number name ∷ height_word height ∷ [] }

-- the line of a point: its block, CR and LF
abbrev pub point_text : ℕ → List ℕ → ℤ → List ℕ
point_text number name height = block_text (point_block number name height)

-- the line of a point, given its number and its name
unfoldable pub text_of_point : (List ℕ → ℤ) → ℕ × List ℕ → List ℕ
text_of_point heights (number, name) = point_text number name (heights name)

-- the text of the file: a line for each point, in point order, numbered from 1
abbrev pub gsi_text : Survey → (List ℕ → ℤ) → List ℕ
gsi_text survey heights = flat_map (text_of_point heights) (enumerate_from 1 (points_of survey))

-- the name in the data of a block's first word, if that is a word 11
abbrev pub name_in : List Parts → Option (List ℕ)
name_in [] = None
name_in (word ∷ words) = if word.index == point_number then name_of word.body else None

-- the name on a parsed line, if that is a block
abbrev pub name_read : Result (Option BlockParts) BlockFault → Option (List ℕ)
name_read (Ok (Some block)) = name_in block.words
name_read other = None

-- the name on a line
abbrev pub name_on : List ℕ → Option (List ℕ)
name_on line = name_read (block_at line)
