-- What looks odd in the lines of a book, though no number shows it.
use Rattle.std.specs.Prelude.{ℕ, ℤ, pos, ◌+◌, ◌&&◌, not, Bool, false, List, [], ◌∷◌, Option, Some, None, if◌then◌else◌, length, option_and_then}
use Rattle.std.specs.List.{list_any}
use Rattle.std.specs.Ordering.{int_eq}
use Rattle.std.specs.Result.{result_ok}
use Rattle.gsi_word.specs.Indexes.{height_difference, instrument_height, slope_distance}
use Rattle.gsi_word.specs.Words.{Parts}
use Rattle.gsi_word.specs.Values.{length_of}
use Rattle.th_book.specs.Lines.{ParsedLine, counts_for, is_sight, length_in}
use Rattle.th_book.specs.Places.{holds_from, last_below, setup_of, words_at}
use Rattle.th_entries.specs.Below.{all_below}

-- a length that is there, and is zero
abbrev pub is_zero : Option ℤ → Bool
is_zero None = false
is_zero (Some length) = int_eq length (pos 0)

-- a word 31 of no distance
abbrev pub is_no_distance : Parts → Bool
is_no_distance word = counts_for slope_distance word && is_zero (result_ok (length_of word))

-- a sight of a direction alone, which is written with zeros: its height difference is zero, and its distance
abbrev pub is_direction : List Parts → Bool
is_direction words = is_zero (length_in height_difference words) && list_any is_no_distance words

-- the instrument height that is in force before a line: that of the last word 88 of the running setup
abbrev pub height_before : List ParsedLine → ℕ → Option ℤ
height_before parsed place =
    option_and_then (λ setup. option_and_then (λ k. length_in instrument_height (words_at parsed k)) (last_below (holds_from parsed instrument_height setup) place)) (setup_of parsed place)

-- two lengths are there, and differ
abbrev pub differ : Option ℤ → Option ℤ → Bool
differ None own = false
differ (Some before) None = false
differ (Some before) (Some own) = not (int_eq before own)

-- a sight enters another instrument height than the one in force before it
abbrev pub changes_height : List ParsedLine → ℕ → Bool
changes_height parsed place =
    is_sight (words_at parsed place) && differ (height_before parsed place) (length_in instrument_height (words_at parsed place))

-- the lines, counted from 1, that pass a test
abbrev pub lines_that : (ℕ → Bool) → List ParsedLine → List ℕ
lines_that test parsed = all_below (λ place. if test place then (place + 1) ∷ [] else []) (length parsed)

-- the lines of directions alone
abbrev pub directions_of : List ParsedLine → List ℕ
directions_of parsed = lines_that (λ place. is_direction (words_at parsed place)) parsed

-- the lines of sights that enter another instrument height
abbrev pub changes_of : List ParsedLine → List ℕ
changes_of parsed = lines_that (changes_height parsed) parsed
