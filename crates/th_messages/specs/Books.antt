-- What helps against a fault of a book: the cause that is most likely in the book of an instrument.
use Rattle.std.specs.Prelude.{ℕ, List, ◌==◌, codes, if◌then◌else◌}
use Rattle.gsi_word.specs.declared.faults.WordFault.{WordFault}
use Rattle.gsi_word.specs.declared.faults.WordFault.TheVariants.{Short, BadIndex, BadInfo, BadSign, BadData}
use Rattle.gsi_block.specs.declared.faults.BlockFault.{BlockFault}
use Rattle.gsi_block.specs.declared.faults.BlockFault.TheVariants.{BadWord, TooManyWords, LineTooLong, BadSeparator}
use Rattle.th_book.specs.declared.faults.BookFault.{BookFault}
use Rattle.th_book.specs.declared.faults.BookKind.{BookKind}
use Rattle.th_conversions.specs.declared.height_faults.HeightKind.{HeightKind}
use Rattle.th_conversions.specs.declared.height_faults.HeightKind.TheVariants.{Book, FarTarget, HasDifference, NoStationHeight, NoUnit}
use Rattle.th_book.specs.declared.faults.BookKind.TheVariants.{Block, RepeatedWord, NoPointNumber, BadName, BadNumber, BadUnit, TooLarge, SightBeforeSetup, NoInstrumentHeight, NoReflectorHeight, SightToItself, BookTooLong, NoMemory}

-- a bad word, by its number in the line
abbrev pub word_help : ℕ → WordFault → List ℕ
word_help k Short = if k == 1 then codes "the line is cut, or bytes 1A or 00 end the file: remove them" else codes "the line is cut, or has more than one blank between words"
word_help k BadIndex = if k == 1 then codes "a line begins with a word: no byte order mark, quotes or blanks before it, and no UTF-16" else codes "between two words is one blank, and no tab"
word_help k BadInfo = codes "positions 3 to 6 of a word are digits and dots"
word_help k BadSign = codes "position 7 of a word is + or -"
word_help k BadData = codes "words are printable ASCII: no accents, and no control characters"

-- the first word of a book: other files have none there
abbrev pub no_book : List ℕ
no_book = codes "this is no GSI book: no zip, XML, table or UTF-16, and nothing before the first word, as a byte order mark, quotes or a blank"

abbrev pub first_word_help : WordFault → List ℕ
first_word_help Short = no_book
first_word_help BadIndex = no_book
first_word_help other = word_help 1 other

-- a line that is no block
abbrev pub block_help : BlockFault → List ℕ
block_help (BadWord k fault) = word_help k fault
block_help TooManyWords = codes "a line has at most 64 words"
block_help LineTooLong = codes "a line has at most 1,600 bytes: the file is no book, or its line ends are lost"
block_help (BadSeparator k) = codes "a line of GSI-16 words begins with *; between two words is one blank, and no tab"

-- a fault of a book
abbrev pub book_help : BookKind → List ℕ
book_help (Block fault) = block_help fault
book_help RepeatedWord = codes "the line has two words 33, 84, 85, 86, 87 or 88"
book_help NoPointNumber = codes "the line of a station or of a sight begins with word 11"
book_help BadName = codes "word 11 has a name of 1 to 16 characters"
book_help BadNumber = codes "words 33, 87 and 88 have nothing but digits behind the sign"
book_help BadUnit = codes "position 6 of words 33, 87 and 88 is 0, 1, 6, 7 or 8"
book_help TooLarge = codes "words 33, 87 and 88 are at most 10 km"
book_help SightBeforeSetup = codes "before its sights comes a station line: word 11, and 84, 85 or 86"
book_help NoInstrumentHeight = codes "the station line needs word 88, the instrument height"
book_help NoReflectorHeight = codes "the recording mask needs word 87, the pole height, in the station line or in each sight"
book_help SightToItself = codes "the sight has the name of its own station: one of the two names is wrong"
book_help BookTooLong = codes "a book has at most 64 MiB"
book_help NoMemory = codes "this is no fault of the book"

-- a fault of the first line of a book
abbrev pub first_line_help : BookKind → List ℕ
first_line_help (Block (BadWord k fault)) = if k == 1 then first_word_help fault else word_help k fault
first_line_help other = book_help other

-- a fault of a book, in its line
abbrev pub fault_help : BookFault → List ℕ
fault_help fault = if fault.line == 1 then first_line_help fault.kind else book_help fault.kind

-- a fault of a book that is converted, if other books may have it too: words 83 and 86 count
abbrev pub converted_help : BookKind → List ℕ
converted_help (Block TooManyWords) = codes "a line has at most 64 words, and a sight gets up to three more"
converted_help RepeatedWord = codes "a line has one word each of 83, 84, 85, 86, 87 and 88"
converted_help BadNumber = codes "words 83, 86, 87 and 88 have nothing but digits behind the sign"
converted_help BadUnit = codes "position 6 of words 83, 86, 87 and 88 is 0, 1, 6, 7 or 8"
converted_help TooLarge = codes "words 83, 86, 87 and 88 are at most 10 km"
converted_help other = book_help other

-- a fault of a book with heights
abbrev pub heights_help : HeightKind → List ℕ
heights_help (Book kind) = converted_help kind
heights_help HasDifference = codes "a book with words 33 needs no conversion"
heights_help NoUnit = codes "words 83, 86, 87 and 88 are all metric, or all in feet"
heights_help FarTarget = codes "a word 33 is at most 10 km, and in GSI-8 it has room for 1 km"
heights_help NoStationHeight = codes "the station line needs word 86, the height of the station"
