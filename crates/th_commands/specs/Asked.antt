use Rattle.std.specs.Prelude.{◌&&◌, ℤ, Bool, false, List, Option, Some, None, codes, if◌then◌else◌, length, nat_le, option_and_then, option_map}
use Rattle.std.specs.Option.{option_map_or}
use Rattle.std.specs.Str.{bytes_eq}
use Rattle.clap.specs.Words.{Row, Text, all_of, first_of}
use Rattle.th_columns.specs.FileNames.{last_part}
use Rattle.th_commands.specs.BlunderLimits.{limit_from}
use Rattle.th_commands.specs.PlanLimits.{max_books}
use Rattle.th_commands.specs.Prefixes.{names_files}
use Rattle.th_commands.specs.Streams.{reads_twice}
use Rattle.th_commands.specs.Titles.{is_title}

-- the names of the files that `adjust`, `review`, `explain`, `page` and `check` read: the books in order, the benchmarks, and the weights if a file of them is named
pub record Files : Type 0 where
  pub books : List Text
  pub benchmarks : Text
  pub weights : Option Text

-- what a command line requests: to list a book; to adjust, to review or to make a page, with a limit of blunders
-- in units of 10 nm and the prefix of the outputs, and the title of a page; to explain, with a limit and whether a table is printed; to check a certificate,
-- and maybe to list what was read; to make a book of a table of differences, or of a book with heights; or to mend by a table of changes a book
pub data Asked : Type 0 where
  list : Text → Asked
  adjust : Files → ℤ → Text → Asked
  review : Files → ℤ → Text → Asked
  explain : Files → ℤ → Bool → Asked
  page : Files → ℤ → Text → Text → Asked
  check : Files → Text → Asked
  check_with_inputs : Files → Text → Asked
  book : Text → Asked
  book_of_heights : Text → Asked
  mend : Text → Text → Asked

-- the names of the books, if there is one at least, and no more than a command takes
abbrev pub books_of : List Text → Option (List Text)
books_of names = if nat_le 1 (length names) && nat_le (length names) max_books then Some names else None

-- the files in what `clap` found for a command's arguments
abbrev pub files_in : List Row → Option Files
files_in rows =
    option_and_then (λ names. option_and_then (λ books. option_map (λ benchmarks. record {
      books = books;
      benchmarks = benchmarks;
      weights = first_of (codes "weights") rows;
    }) (first_of (codes "benchmarks") rows)) (books_of names)) (all_of (codes "book") rows)

-- the limit of blunders in what `clap` found
abbrev pub limit_in : List Row → Option ℤ
limit_in rows = limit_from (first_of (codes "limit") rows) (first_of (codes "blunder") rows)

-- the prefix of the outputs in what `clap` found, if it names files
abbrev pub prefix_in : List Row → Option Text
prefix_in rows = option_and_then (λ prefix. if names_files prefix then Some prefix else None) (first_of (codes "out") rows)

-- the options of `adjust`, `review` and `page` in what `clap` found: the files, the limit of blunders, and the prefix
abbrev pub options_in : List Row → Option (Files × ℤ × Text)
options_in rows =
    option_and_then (λ files. option_and_then (λ limit. option_map (λ prefix. (files, limit, prefix)) (prefix_in rows)) (limit_in rows)) (files_in rows)

-- the title of a page in what `clap` found, if it is one; where there is none, the last part of the prefix
abbrev pub title_or : Text → Option Text → Option Text
title_or prefix None = Some (last_part prefix)
title_or prefix (Some text) = if is_title text then Some text else None

abbrev pub title_in : Text → List Row → Option Text
title_in prefix rows = title_or prefix (first_of (codes "title") rows)

-- whether `clap` found a flag
abbrev pub flag_in : Text → List Row → Bool
flag_in name rows = option_map_or (λ text. bytes_eq text (codes "true")) (first_of name rows) false

-- the flag for a table, that for a list of the inputs, and that for a book with heights
abbrev pub table_in : List Row → Bool
table_in rows = flag_in (codes "csv") rows

abbrev pub inputs_in : List Row → Bool
inputs_in rows = flag_in (codes "inputs") rows

abbrev pub heights_in : List Row → Bool
heights_in rows = flag_in (codes "heights") rows

-- what the arguments of each command request
abbrev pub list_asked : List Row → Option Asked
list_asked rows = option_map list (first_of (codes "book") rows)

abbrev pub adjust_asked : List Row → Option Asked
adjust_asked rows = option_map (λ own. adjust own.0 own.1 own.2) (options_in rows)

abbrev pub review_asked : List Row → Option Asked
review_asked rows = option_map (λ own. review own.0 own.1 own.2) (options_in rows)

abbrev pub explain_asked : List Row → Option Asked
explain_asked rows = option_and_then (λ files. option_map (λ limit. explain files limit (table_in rows)) (limit_in rows)) (files_in rows)

abbrev pub page_asked : List Row → Option Asked
page_asked rows = option_and_then (λ own. option_map (page own.0 own.1 own.2) (title_in own.2 rows)) (options_in rows)

abbrev pub check_asked : List Row → Option Asked
check_asked rows =
    option_and_then (λ files. option_map (if inputs_in rows then check_with_inputs files else check files) (first_of (codes "certificate") rows)) (files_in rows)

abbrev pub book_asked : List Row → Option Asked
book_asked rows = option_map (λ file. if heights_in rows then book_of_heights file else book file) (first_of (codes "table") rows)

abbrev pub mend_asked : List Row → Option Asked
mend_asked rows = option_and_then (λ changes. option_map (mend changes) (first_of (codes "book") rows)) (first_of (codes "changes") rows)

-- what the command of this name requests
abbrev pub command_asked : Text → List Row → Option Asked
command_asked name rows =
    if bytes_eq name (codes "list") then list_asked rows
    else if bytes_eq name (codes "adjust") then adjust_asked rows
    else if bytes_eq name (codes "review") then review_asked rows
    else if bytes_eq name (codes "explain") then explain_asked rows
    else if bytes_eq name (codes "page") then page_asked rows
    else if bytes_eq name (codes "check") then check_asked rows
    else if bytes_eq name (codes "book") then book_asked rows
    else if bytes_eq name (codes "mend") then mend_asked rows
    else None

-- what a command requests, given what `clap` found for its arguments; it reads standard input once at most
abbrev pub asked_by : Option (Text × List Row) → Option Asked
asked_by = option_and_then (λ found. if reads_twice found.1 then None else command_asked found.0 found.1)
