use Rattle.std.specs.Prelude.{◌≡◌, ℕ, ℤ, ◌+◌, ◌+ℤ◌, ◌-ℤ◌, pos, List, [], Option, Some, None, Result, Ok, Err, if◌then◌else◌, filter, length, map, nat_lt, unwrap_or}
use Rattle.std.specs.List.{range_with_len}
use Rattle.gsi_word.specs.Indexes.{height_difference, reflector_height, instrument_height}
use Rattle.th_book.specs.Limits.{max_book}
use Rattle.gsi_block.specs.Lines.{lines_of}
use Rattle.gsi_block.specs.Blocks.{block_at}
use Rattle.th_observations.specs.Observed.{Observed}
use Rattle.th_book.specs.Lines.{ParsedLine, is_sight, length_in, point_name}
use Rattle.th_book.specs.Places.{height_at, station_at, words_at}
use Rattle.th_book.specs.Faults.{first_fault}
use Rattle.th_book.specs.declared.faults.BookFault.{BookFault}
use Rattle.th_book.specs.declared.faults.BookKind.TheVariants.{BookTooLong}

-- a length or a name that a book without a fault always has; 0 or the empty name if it is missing
abbrev pub known : Option ℤ → ℤ
known length = unwrap_or length (pos 0)

abbrev pub known_name : Option (List ℕ) → List ℕ
known_name name = unwrap_or name []

-- the height difference from station to target: word 33, which runs from the instrument's tilting
-- axis to the reflector, plus the instrument height, less the reflector height
abbrev pub difference : Option ℤ → Option ℤ → Option ℤ → ℤ
difference sighted instrument reflector = known sighted +ℤ known instrument -ℤ known reflector

-- the observation of the sight at a place
abbrev pub observed_at : ℕ → List ParsedLine → ℕ → Observed
observed_at book parsed place = record {
  station = known_name (station_at parsed place);
  target = known_name (point_name (words_at parsed place));
  difference = difference (length_in height_difference (words_at parsed place)) (height_at instrument_height parsed place) (height_at reflector_height parsed place);
  book = book;
  line = place + 1;
}

-- the observations of a book's lines, in the order of their sights
abbrev pub observations_of : ℕ → List ParsedLine → List Observed
observations_of book parsed =
    map (observed_at book parsed) (filter (λ place. is_sight (words_at parsed place)) (range_with_len 0 (length parsed)))

-- the result of a book: its first fault, or else its observations
abbrev pub answer : Option BookFault → List Observed → Result (List Observed) BookFault
answer (Some fault) observations = Err fault
answer None observations = Ok observations

abbrev pub answer_of : ℕ → List ParsedLine → Result (List Observed) BookFault
answer_of book parsed = answer (first_fault parsed) (observations_of book parsed)

-- the result of a book's lines
abbrev pub lines_answer : ℕ → List (List ℕ) → Result (List Observed) BookFault
lines_answer book lines = answer_of book (map block_at lines)

-- the fault of a book that is too long; it names line 0
abbrev pub too_long : BookFault
too_long = record { line = 0; kind = BookTooLong }

-- the result of a book's bytes; a book that is too long is refused before anything else is checked
abbrev pub book_answer : ℕ → List ℕ → Result (List Observed) BookFault
book_answer book bytes =
    if nat_lt max_book (length bytes) then Err too_long else lines_answer book (lines_of bytes)

-- the parsed lines of a book
abbrev pub parsed_of : List ℕ → List ParsedLine
parsed_of bytes = map block_at (lines_of bytes)

-- a book has no fault
abbrev pub IsFaultless : ℕ → List ℕ → Type 0
IsFaultless book bytes = (observations : List Observed) × (book_answer book bytes ≡ Ok observations)
