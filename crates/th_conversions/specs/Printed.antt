-- The book that is printed from a book with heights: line by line, a height sight with a word 33 behind its own, and other lines as they are.
use Rattle.std.specs.Prelude.{ℕ, ℤ, ◌+◌, ◌+ℤ◌, ◌-ℤ◌, ◌++◌, List, [], ◌∷◌, Option, Some, None, Result, Ok, Err, if◌then◌else◌, length, nat_lt}
use Rattle.std.specs.List.{flat_map}
use Rattle.gsi_word.specs.Indexes.{height_difference, instrument_height, reflector_height, target_height}
use Rattle.gsi_word.specs.Words.{Parts}
use Rattle.gsi_block.specs.Blocks.{BlockParts, block_at}
use Rattle.gsi_block.specs.Lines.{lines_of}
use Rattle.gsi_block.specs.Limits.{max_words}
use Rattle.gsi_block.specs.Writing.{block_line}
use Rattle.gsi_block.specs.declared.faults.BlockFault.TheVariants.{TooManyWords}
use Rattle.th_book.specs.Books.{book_answer, known, too_long}
use Rattle.th_book.specs.Limits.{max_book}
use Rattle.th_book.specs.Lines.{ParsedLine, length_in}
use Rattle.th_observations.specs.Observed.{Observed}
use Rattle.th_book.specs.declared.faults.BookFault.{BookFault}
use Rattle.th_book.specs.declared.faults.BookKind.TheVariants.{Block, SightBeforeSetup}
use Rattle.th_conversions.specs.HeightFaults.{fault_in, of_book}
use Rattle.th_conversions.specs.declared.height_faults.HeightFault.{HeightFault}
use Rattle.th_conversions.specs.declared.height_faults.HeightKind.{HeightKind}
use Rattle.th_conversions.specs.declared.height_faults.HeightKind.TheVariants.{Book, NoStationHeight}
use Rattle.th_conversions.specs.Running.{running_after, with_heights}
use Rattle.th_conversions.specs.Sights.{height_fault, is_height_sight}
use Rattle.th_conversions.specs.Words.{Written, word_of, written_of, zero_unless}
use Rattle.th_conversions.specs.declared.running.Running.{Running}

-- a line as it is printed, and the setup that runs after it
abbrev pub Step : Type 0
Step = List ℕ × Option Running

-- word 33: from the tilting axis to the reflector, so that with both heights it makes 83 less 86
abbrev pub sighted : ℤ → ℤ → Running → ℤ
sighted target station heights = target -ℤ station -ℤ known heights.instrument +ℤ known heights.reflector

-- the words of a height sight, with its word 33 and with heights of zero where none runs
abbrev pub longer : BlockParts → Running → Written → List Parts
longer block heights written =
    block.words ++ zero_unless block.width instrument_height heights.instrument ++ zero_unless block.width reflector_height heights.reflector
    ++ word_of block.width height_difference written ∷ []

-- the line of these words, if they are no more than a block may have, and the setup that runs after it
abbrev pub line_of : Running → BlockParts → Result Step HeightKind
line_of running block =
    if nat_lt max_words (length block.words) then Err (Book (Block TooManyWords)) else Ok (block_line block, Some (with_heights block.words running))

-- the line of a height sight with this word 33, or the fault that it cannot be written
abbrev pub longer_line : Running → BlockParts → Running → Written → Result Step HeightKind
longer_line running block heights written = line_of running (record { width = block.width; words = longer block heights written })

abbrev pub with_word : Running → BlockParts → Running → Result Written HeightKind → Result Step HeightKind
with_word running block heights (Err kind) = Err kind
with_word running block heights (Ok written) = longer_line running block heights written

-- a height sight from a setup whose station has this height
abbrev pub sight_above : Running → BlockParts → ℤ → Result Step HeightKind
sight_above running block station =
    let heights = with_heights block.words running in
    with_word running block heights (written_of block.width (sighted (known (length_in target_height block.words)) station heights))

abbrev pub sight_from : Running → BlockParts → Option ℤ → Result Step HeightKind
sight_from running block None = Err NoStationHeight
sight_from running block (Some station) = sight_above running block station

-- a height sight in a running setup
abbrev pub sight_line : Option Running → BlockParts → Result Step HeightKind
sight_line None block = Err (Book SightBeforeSetup)
sight_line (Some running) block = sight_from running block running.station

-- a block without a fault of its own in a running setup, in this line
abbrev pub sound_line : Option Running → List ℕ → BlockParts → Result Step HeightKind
sound_line running line block =
    if is_height_sight block.words then sight_line running block else Ok (line, running_after running block.words)

-- a block, unless it has a fault
abbrev pub unless_faulty : Option HeightKind → Result Step HeightKind → Result Step HeightKind
unless_faulty (Some kind) step = Err kind
unless_faulty None step = step

-- a line that was parsed
abbrev pub parsed_line : Option Running → List ℕ → ParsedLine → Result Step HeightKind
parsed_line running line (Err fault) = Err (Book (Block fault))
parsed_line running line (Ok None) = Ok (line, running)
parsed_line running line (Ok (Some block)) = unless_faulty (height_fault block.words) (sound_line running line block)

-- a line
abbrev pub printed_line : Option Running → List ℕ → Result Step HeightKind
printed_line running line = parsed_line running line (block_at line)

-- lines as they are printed, and the fault of the first that cannot be
abbrev pub Lines : Type 0
Lines = List (List ℕ) × Option HeightFault

abbrev pub then_lines : ℕ → Result Step HeightKind → (Option Running → Lines) → Lines
then_lines place (Err kind) later = ([], Some (fault_in place kind))
then_lines place (Ok step) later = let rest = later step.1 in (step.0 ∷ rest.0, rest.1)

-- the lines of a book from this place on
abbrev pub printed_from : Option Running → ℕ → List (List ℕ) → Lines
printed_from running place [] = ([], None)
printed_from running place (line ∷ lines) = then_lines place (printed_line running line) (λ next. printed_from next (place + 1) lines)

-- a line with its end
abbrev pub ended : List ℕ → List ℕ
ended line = line ++ 13 ∷ 10 ∷ []

-- what was printed, unless it has a fault as a book, or a fault came behind it
abbrev pub checked : Result (List Observed) BookFault → List ℕ → Option HeightFault → Result (List ℕ) HeightFault
checked (Err first) text fault = Err (of_book first)
checked (Ok observations) text (Some fault) = Err fault
checked (Ok observations) text None = Ok text

abbrev pub checked_text : List ℕ → Option HeightFault → Result (List ℕ) HeightFault
checked_text text fault = checked (book_answer 1 text) text fault

abbrev pub checked_lines : Lines → Result (List ℕ) HeightFault
checked_lines lines = checked_text (flat_map ended lines.0) lines.1

-- the book of a book with heights, or its first fault; a book that is too long is refused before anything else is checked
abbrev pub book_of_heights : List ℕ → Result (List ℕ) HeightFault
book_of_heights bytes = if nat_lt max_book (length bytes) then Err (of_book too_long) else checked_lines (printed_from None 0 (lines_of bytes))
