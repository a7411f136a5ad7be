-- What helps against a fault of a table of differences.
use Rattle.std.specs.Prelude.{ℕ, List, codes}
use Rattle.th_conversions.specs.declared.faults.DifferenceKind.{DifferenceKind}
use Rattle.th_conversions.specs.declared.faults.DifferenceKind.TheVariants.{BadHeader, FieldCount, BadName, BadDifference, ToItself, TableTooLong, NoMemory}

abbrev pub differences_help : DifferenceKind → List ℕ
differences_help BadHeader = codes "the first line must be: from,to,difference (commas, no semicolons, no blanks), or that of a list"
differences_help FieldCount = codes "each line has as many fields as the first: fields are separated by commas, decimals by a dot"
differences_help BadName = codes "a name has 1 to 16 characters of ASCII"
differences_help BadDifference = codes "a difference is in metres with a dot, no comma, in steps of 0.00001 and at most 10000, as -1.2345"
differences_help ToItself = codes "a difference leads from a point to another one; 007 and 7 are one name"
differences_help TableTooLong = codes "a table of differences has at most 4 MiB: divide it"
differences_help NoMemory = codes "this is no fault of the table"
