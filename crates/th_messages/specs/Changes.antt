-- What helps against a fault of a table of changes, and where a change has no place in a book.
use Rattle.std.specs.Prelude.{ℕ, List, codes}
use Rattle.th_mend.specs.declared.change_faults.ChangeKind.{ChangeKind}
use Rattle.th_mend.specs.declared.change_faults.ChangeKind.TheVariants.{BadHeader, FieldCount, BadLine, BadWord, BadLength, GivenValue, BadName, TableTooLong, NoMemory}
use Rattle.th_mend.specs.declared.faults.MendKind.{MendKind}
use Rattle.th_mend.specs.declared.faults.MendKind.TheVariants.{NoLine, NoSight, NoSetup, NoHeight, BeginsSetup, Clash, NoUnit, NotWhole, TooManyDigits, LongName}

abbrev pub changes_help : ChangeKind → List ℕ
changes_help BadHeader = codes "the first line must be: line,word,value (commas, no semicolons, no blanks)"
changes_help FieldCount = codes "each line has three fields, separated by commas; decimals by a dot"
changes_help BadLine = codes "the lines of the book count from 1, blank ones too"
changes_help BadWord = codes "a word is 88, 87, 88 since, 87 since, 33, sign, to or from"
changes_help BadLength = codes "a length is in metres with a dot, no comma, no blank, and at most 10000, as 1.567"
changes_help GivenValue = codes "sign changes + to - and - to +: its value is empty"
changes_help BadName = codes "a name has 1 to 16 characters of ASCII"
changes_help TableTooLong = codes "a table of changes has at most 64 KiB: mend with a part of it, and the mended book with the rest"
changes_help NoMemory = codes "this is no fault of the table"

abbrev pub unfit_help : MendKind → List ℕ
unfit_help NoLine = codes "the lines of the book count from 1, blank ones too"
unfit_help NoSight = codes "33, sign and to change a sight: a line with word 33"
unfit_help NoSetup = codes "from changes a setup: a line with word 84, 85 or 86, and without word 33"
unfit_help NoHeight = codes "a height is in force from its own line to that of the next one or of the next setup"
unfit_help BeginsSetup = codes "the line has word 84, 85 or 86: without word 33 it would be a station line"
unfit_help Clash = codes "one record changes all words of an entry"
unfit_help NoUnit = codes "position 6 of the word is 0, 1, 6, 7 or 8"
unfit_help NotWhole = codes "round the length to the unit of the word, mm or finer"
unfit_help TooManyDigits = codes "a word of GSI-8 has 8 digits, one of GSI-16 has 16"
unfit_help LongName = codes "a name in a line of GSI-8 has at most 8 characters"
