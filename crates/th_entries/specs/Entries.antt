use Rattle.std.specs.Prelude.{ℕ, suc, ℤ, ◌+◌, ◌==◌, ◌&&◌, ◌++◌, not, Bool, false, List, Option, find, length, nat_le, option_and_then, option_map, option_to_list, slice_index, unwrap_or}
use Rattle.std.specs.Option.{option_map_or}
use Rattle.std.specs.Ordering.{int_eq}
use Rattle.gsi_word.specs.Indexes.{reflector_height, instrument_height}
use Rattle.gsi_word.specs.Words.{Parts}
use Rattle.th_units.specs.Units.{unit_of}
use Rattle.th_units.specs.declared.units.Unit.{Unit}
use Rattle.th_units.specs.declared.units.Unit.TheVariants.{Mm}
use Rattle.th_book.specs.Lines.{ParsedLine, counts_for, holds, is_sight, length_in}
use Rattle.th_book.specs.Places.{holds_from, last_below, setup_of, station_at, words_at}
use Rattle.th_book.specs.Books.{known, known_name}
use Rattle.th_entries.specs.Below.{all_below, count_below}
use Rattle.th_entries.specs.declared.entries.Entry.{Entry}
use Rattle.th_entries.specs.declared.entries.HeightKind.{HeightKind}
use Rattle.th_entries.specs.declared.entries.HeightKind.TheVariants.{Reflector, Instrument}

-- the index of the words that enter a height
abbrev pub index_of : HeightKind → ℕ
index_of Reflector = reflector_height
index_of Instrument = instrument_height

-- the length that a line enters for an index, in units of 10 nm
abbrev pub length_at : ℕ → List ParsedLine → ℕ → ℤ
length_at index parsed line = known (length_in index (words_at parsed line))

-- the unit of a word, by its position 6; a word that counts has one, or else it has a fault
abbrev pub unit_of_word : Parts → Unit
unit_of_word word = unwrap_or (unit_of (slice_index word.info 3)) Mm

-- the unit of the first of some words that counts for an index; millimetres if none does
abbrev pub unit_in : ℕ → List Parts → Unit
unit_in index words = option_map_or unit_of_word (find (counts_for index) words) Mm

-- the last line before a place that holds an index, in the setup that the line at the place begins, or else in the running one
abbrev pub last_before : ℕ → List ParsedLine → ℕ → Option ℕ
last_before index parsed place = option_and_then (λ setup. last_below (holds_from parsed index setup) place) (setup_of parsed (suc place))

-- a line continues an entry: its length is that of the word before it, in the same setup
abbrev pub continues : ℕ → List ParsedLine → ℕ → Bool
continues index parsed place =
    option_map_or (λ before. int_eq (length_at index parsed before) (length_at index parsed place)) (last_before index parsed place) false

-- a line begins an entry: it holds the index, and continues none
abbrev pub begins : ℕ → List ParsedLine → ℕ → Bool
begins index parsed place = holds index (words_at parsed place) && not (continues index parsed place)

-- line `k` is at or after the place `from`, and it begins an entry
abbrev pub begins_from : List ParsedLine → ℕ → ℕ → ℕ → Bool
begins_from parsed index from k = nat_le from k && begins index parsed k

-- the line of the entry that a sight uses: the last one that begins an entry, from the setup's line to the sight's own
abbrev pub entry_line : ℕ → List ParsedLine → ℕ → Option ℕ
entry_line index parsed place = option_and_then (λ setup. last_below (begins_from parsed index setup) (suc place)) (setup_of parsed place)

-- the sight at a place uses the entry of a line
abbrev pub uses : ℕ → List ParsedLine → ℕ → ℕ → Bool
uses index parsed line place =
    is_sight (words_at parsed place) && option_map_or (λ own. own == line) (entry_line index parsed place) false

-- the line of the entry that is in force behind a line: the last one that begins an entry, from the line of its setup to its own
abbrev pub entry_behind : ℕ → List ParsedLine → ℕ → Option ℕ
entry_behind index parsed place =
    option_and_then (λ setup. last_below (begins_from parsed index setup) (suc place)) (setup_of parsed (suc place))

-- the line at a place has a word of the entry of a line: it begins that entry, or repeats its height in the setup
abbrev pub writes : ℕ → List ParsedLine → ℕ → ℕ → Bool
writes index parsed line place =
    holds index (words_at parsed place) && option_map_or (λ own. own == line) (entry_behind index parsed place) false

-- the last line before a bound that has a word of the entry of a line; its own line if none repeats it
abbrev pub repeated_below : ℕ → List ParsedLine → ℕ → ℕ → ℕ
repeated_below index parsed bound line = option_map_or (λ last. last + 1) (last_below (writes index parsed line) bound) (line + 1)

-- the entry of a line, given the place of the last sight that uses it; its lines count from 1
abbrev pub entry_until : ℕ → List ParsedLine → HeightKind → ℕ → ℕ → Entry
entry_until book parsed kind line last = record {
  book = book;
  line = line + 1;
  kind = kind;
  station = known_name (station_at parsed last);
  length = length_at (index_of kind) parsed line;
  unit = unit_in (index_of kind) (words_at parsed line);
  repeated = repeated_below (index_of kind) parsed (length parsed) line;
  sights = count_below (uses (index_of kind) parsed line) (length parsed);
  last = last + 1;
}

-- the entry of a line, if a sight uses it
abbrev pub entry_at : ℕ → List ParsedLine → HeightKind → ℕ → Option Entry
entry_at book parsed kind line =
    option_map (entry_until book parsed kind line) (last_below (uses (index_of kind) parsed line) (length parsed))

-- the entries of a line, the reflector height first
abbrev pub entries_at : ℕ → List ParsedLine → ℕ → List Entry
entries_at book parsed line =
    option_to_list (entry_at book parsed Reflector line) ++ option_to_list (entry_at book parsed Instrument line)

-- the entries of a book's lines, in the order of lines
abbrev pub entries_of : ℕ → List ParsedLine → List Entry
entries_of book parsed = all_below (entries_at book parsed) (length parsed)
