-- What helps against a fault of a table.
use Rattle.std.specs.Prelude.{ℕ, List, codes}
use Rattle.th_tables.specs.declared.faults.TableKind.{TableKind}
use Rattle.th_tables.specs.declared.faults.TableKind.TheVariants.{BadHeader, FieldCount, BadName, BadHeight, BadWeight, Repeated, TableTooLong, NoMemory}

-- a fault of the table of benchmarks
abbrev pub benchmarks_help : TableKind → List ℕ
benchmarks_help BadHeader = codes "the first line must be: point,height (a comma, no semicolon, no blank)"
benchmarks_help FieldCount = codes "each line has 2 fields: fields are separated by commas, decimals by a dot"
benchmarks_help BadName = codes "a name has 1 to 16 characters of ASCII"
benchmarks_help BadHeight = codes "a height is in metres with a dot, no comma, no blank, and at most 8 decimals, as 250.1112"
benchmarks_help BadWeight = codes "the table of benchmarks has no weights"
benchmarks_help Repeated = codes "each point has one height; 007 and 7 are one name"
benchmarks_help TableTooLong = codes "a table has at most 1 MiB"
benchmarks_help NoMemory = codes "this is no fault of the table"

-- a fault of the table of weights
abbrev pub weights_help : TableKind → List ℕ
weights_help BadHeader = codes "the first line must be: from,to,weight (commas, no semicolons, no blanks)"
weights_help FieldCount = codes "each line has 3 fields: fields are separated by commas"
weights_help BadName = codes "a name has 1 to 16 characters of ASCII"
weights_help BadHeight = codes "the table of weights has no heights"
weights_help BadWeight = codes "a weight is a whole number from 1 to 1000"
weights_help Repeated = codes "each pair has one weight; 007 and 7 are one name"
weights_help TableTooLong = codes "a table has at most 1 MiB"
weights_help NoMemory = codes "this is no fault of the table"
