-- What is wrong with arguments that `clap` takes.
use Rattle.std.specs.Prelude.{◌&&◌, ℕ, Bool, false, List, [], Option, None, Some, codes, if◌then◌else◌, is_none, is_some, length, nat_lt, not, option_and_then, unwrap_or}
use Rattle.std.specs.Option.{option_map_or}
use Rattle.clap.specs.Words.{Row, Text, all_of, first_of}
use Rattle.th_commands.specs.Asked.{limit_in}
use Rattle.th_commands.specs.PlanLimits.{max_books}
use Rattle.th_commands.specs.Prefixes.{names_files}
use Rattle.th_commands.specs.Streams.{reads_twice}
use Rattle.th_commands.specs.Titles.{is_title}
use Rattle.th_commands.specs.declared.faults.ArgumentFault.{ArgumentFault}
use Rattle.th_commands.specs.declared.faults.ArgumentFault.TheVariants.{BadLimit, BadTitle, NamesNoFiles, TooManyBooks, TwoLimits, TwoStreams}

-- how many books `clap` found
abbrev pub book_count : List Row → ℕ
book_count rows = length (unwrap_or (all_of (codes "book") rows) [])

-- whether `clap` found a prefix that names no files
abbrev pub has_bad_prefix : List Row → Bool
has_bad_prefix rows = option_map_or (λ prefix. not (names_files prefix)) (first_of (codes "out") rows) false

-- whether `clap` found a limit with its unit, and one in micrometres
abbrev pub has_two_limits : List Row → Bool
has_two_limits rows = is_some (first_of (codes "limit") rows) && is_some (first_of (codes "blunder") rows)

-- whether `clap` found a title that is none
abbrev pub has_bad_title : List Row → Bool
has_bad_title rows = option_map_or (λ title. not (is_title title)) (first_of (codes "title") rows) false

-- the first of these that is wrong with what `clap` found for a command's arguments
abbrev pub argument_fault_in : List Row → Option ArgumentFault
argument_fault_in rows =
    if nat_lt max_books (book_count rows) then Some TooManyBooks
    else if reads_twice rows then Some TwoStreams
    else if has_bad_prefix rows then Some NamesNoFiles
    else if has_two_limits rows then Some TwoLimits
    else if is_none (limit_in rows) then Some BadLimit
    else if has_bad_title rows then Some BadTitle
    else None

-- the same of a command, given what `clap` found for its arguments
abbrev pub argument_fault_by : Option (Text × List Row) → Option ArgumentFault
argument_fault_by = option_and_then (λ found. argument_fault_in found.1)
