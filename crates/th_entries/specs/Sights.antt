-- Books that have blocks and no sight.
use Rattle.std.specs.Prelude.{ℕ, ◌==◌, ◌&&◌, not, Bool, true, false, List, [], ◌∷◌, ◌++◌, Option, Some, None, codes, decimal, if◌then◌else◌, map}
use Rattle.th_book.specs.Lines.{ParsedLine}
use Rattle.th_entries.specs.Counts.{counts_of}
use Rattle.th_entries.specs.Words.{has_word, measured}
use Rattle.th_entries.specs.declared.sights.NoSight.{NoSight}

-- the note of a book with these parsed lines: how many blocks it has, and which words in place of sights; none if it has a sight, or no block
abbrev pub no_sight_in : ℕ → List ParsedLine → Option NoSight
no_sight_in book parsed =
    let counts = counts_of parsed in
    if counts.sights == 0 && not (counts.blocks == 0)
    then Some (record { book = book; blocks = counts.blocks; words = map (has_word parsed) measured })
    else None

-- the numbers at places that are true
abbrev pub numbers_in : List Bool → List ℕ → List ℕ
numbers_in (true ∷ words) (number ∷ numbers) = number ∷ numbers_in words numbers
numbers_in (false ∷ words) (number ∷ numbers) = numbers_in words numbers
numbers_in words numbers = []

-- what stands between a number and those behind it
abbrev pub separator : List ℕ → List ℕ
separator [] = []
separator (last ∷ []) = codes " and "
separator (next ∷ more ∷ rest) = codes ", "

-- some numbers one after the other, as in `22, 31 and 83`
abbrev pub enumerated : List ℕ → List ℕ
enumerated [] = []
enumerated (number ∷ rest) = decimal number ++ (separator rest ++ enumerated rest)

-- what stands before the numbers of words
abbrev pub words_lead : List ℕ → List ℕ
words_lead [] = []
words_lead (only ∷ []) = codes "; it has word "
words_lead (first ∷ next ∷ rest) = codes "; it has words "

-- the text after the count of the blocks of a book
abbrev pub blocks_end : ℕ → List ℕ
blocks_end count = if count == 1 then codes " block (no word 33" else codes " blocks (no word 33"

-- the words that a book has in place of sights, by their numbers
abbrev pub words_seen : List ℕ → List ℕ
words_seen numbers = words_lead numbers ++ enumerated numbers

-- the text of a book that has blocks and no sight
unfoldable pub no_sight_text : NoSight → List ℕ
no_sight_text note =
    codes "book " ++ decimal note.book ++ codes " has no sight in " ++ decimal note.blocks
    ++ blocks_end note.blocks ++ words_seen (numbers_in note.words measured) ++ codes ")"
