use Rattle.std.specs.Prelude.{ℕ, ℤ, ◌&&◌, Bool, zero, suc, List, Option, Some, None, Ok, if◌then◌else◌, nat_le, option_and_then, slice_index_or}
use Rattle.gsi_word.specs.Words.{Parts}
use Rattle.th_book.specs.Lines.{ParsedLine, holds, is_setup, length_in, point_name, words_in}

-- The parsed line at a place. Places count the lines of a book from 0.
abbrev pub line_at : List ParsedLine → ℕ → ParsedLine
line_at parsed place = slice_index_or parsed place (Ok None)

-- the words at a place
abbrev pub words_at : List ParsedLine → ℕ → List Parts
words_at parsed place = words_in (line_at parsed place)

-- the greatest place below a bound that passes a test
abbrev pub last_below : (ℕ → Bool) → ℕ → Option ℕ
last_below test zero = None
last_below test (suc bound) = if test bound then Some bound else last_below test bound

-- the place of a sight's setup: the last setup before it
abbrev pub setup_of : List ParsedLine → ℕ → Option ℕ
setup_of parsed place = last_below (λ k. is_setup (words_at parsed k)) place

-- line `k` is at or after the place `from`, and it holds an index
abbrev pub holds_from : List ParsedLine → ℕ → ℕ → ℕ → Bool
holds_from parsed index from k = nat_le from k && holds index (words_at parsed k)

-- the place of the height that a sight uses: the last line that holds this index, from the setup's line to the sight's own
abbrev pub last_with : ℕ → List ParsedLine → ℕ → Option ℕ
last_with index parsed place = option_and_then (λ setup. last_below (holds_from parsed index setup) (suc place)) (setup_of parsed place)

-- the instrument or reflector height of a sight, by its index
abbrev pub height_at : ℕ → List ParsedLine → ℕ → Option ℤ
height_at index parsed place = option_and_then (λ k. length_in index (words_at parsed k)) (last_with index parsed place)

-- the name of a sight's station
abbrev pub station_at : List ParsedLine → ℕ → Option (List ℕ)
station_at parsed place = option_and_then (λ setup. point_name (words_at parsed setup)) (setup_of parsed place)
