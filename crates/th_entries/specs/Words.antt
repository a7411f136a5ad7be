-- Words that tell what a book has in place of sights.
use Rattle.std.specs.Prelude.{ℕ, ◌+◌, ◌-◌, ◌*◌, ◌==◌, Bool, false, List, [], ◌∷◌, Option, Some, None, if◌then◌else◌, slice_index}
use Rattle.std.specs.List.{list_any}
use Rattle.std.specs.Option.{option_map_or}
use Rattle.gsi_word.specs.Words.{Parts}
use Rattle.th_units.specs.Lengths.{is_digit}
use Rattle.th_book.specs.Lines.{ParsedLine, words_in}

-- the numbers of these words: a vertical angle, a slope and a horizontal distance, the height of the target, and the readings of a digital level
abbrev pub measured : List ℕ
measured = 22 ∷ 31 ∷ 32 ∷ 83 ∷ 330 ∷ 331 ∷ 332 ∷ 333 ∷ 334 ∷ 335 ∷ 336 ∷ 337 ∷ 338 ∷ 339 ∷ []

-- the number of a word: its index where position 3 is a dot, or else the three digits of its index and position 3
abbrev pub number_of : Parts → Option ℕ
number_of word =
    let third = slice_index word.info 0 in
    if third == 46 then Some word.index else (if is_digit third then Some (word.index * 10 + (third - 48)) else None)

-- a word has a number
abbrev pub is_numbered : ℕ → Parts → Bool
is_numbered number word = option_map_or (λ own. own == number) (number_of word) false

-- a word has one of some numbers
abbrev pub is_one_of : List ℕ → Parts → Bool
is_one_of numbers word = option_map_or (λ own. list_any (λ number. own == number) numbers) (number_of word) false

-- one of some words has a number
abbrev pub has : ℕ → List Parts → Bool
has number words = list_any (is_numbered number) words

-- one of the words of some lines has a number
abbrev pub has_word : List ParsedLine → ℕ → Bool
has_word parsed number = list_any (λ line. has number (words_in line)) parsed
