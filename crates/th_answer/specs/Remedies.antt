-- What puts a row right: the number that it is of, with the mildest of its proposed values, or a book that is read from mark to mark.
use Rattle.std.specs.Prelude.{ℕ, ◌≤◌, ℤ, ◌-ℤ◌, ◌==◌, ◌&&◌, Bool, List, Option, Some, None, find, nat_le, option_and_then, option_map, unsigned_abs}
use Rattle.th_observations.specs.Observed.{Observed}
use Rattle.th_entries.specs.declared.entries.Entry.{Entry}
use Rattle.th_entries.specs.declared.entries.HeightKind.{HeightKind}
use Rattle.th_entries.specs.declared.entries.HeightKind.TheVariants as height
use Rattle.th_changes.specs.Numbers.{changed, changed_observation}
use Rattle.th_changes.specs.Reach.{reach_of}
use Rattle.th_changes.specs.declared.numbers.Number.{Number}
use Rattle.th_changes.specs.declared.numbers.Number.TheVariants as number
use Rattle.th_explain_texts.specs.Columns.{mildest_value}
use Rattle.th_explain_texts.specs.declared.rows.Kind.{Kind}
use Rattle.th_explain_texts.specs.declared.rows.Kind.TheVariants as kind
use Rattle.th_explain_texts.specs.declared.rows.Row.{Row}
use Rattle.th_explain_texts.specs.declared.rows.Values.{Values}
use Rattle.th_network.specs.Networks.{Survey}
use Rattle.th_numbers.specs.Candidates.{number_of, touches}
use Rattle.th_numbers.specs.Lists.{is_kind}
use Rattle.th_numbers.specs.declared.candidates.Candidate.TheVariants.{Entered, Since}
use Rattle.th_numbers.specs.Readings.{IsReadable, read_observation, reread}
use Rattle.th_answer.specs.declared.remedies.Remedy.{Remedy}
use Rattle.th_answer.specs.declared.remedies.Remedy.TheVariants.{Change, MarkToMark}

-- whether an entry of a kind is on a line of a book
abbrev pub is_on : HeightKind → ℕ × ℕ → Entry → Bool
is_on kind (book, line) entry = is_kind entry.kind kind && (entry.book == book && entry.line == line)

-- whether a line of a book is among those of the sights of an entry of a kind
abbrev pub is_over : HeightKind → ℕ × ℕ → Entry → Bool
is_over kind (book, line) entry = is_kind entry.kind kind && (entry.book == book && (nat_le entry.line line && nat_le line entry.last))

-- the number of the entry on a line of a book
abbrev pub entered_on : List Entry → HeightKind → ℕ × ℕ → Option Number
entered_on entries kind place = option_map (λ entry. number_of (Entered entry)) (find (is_on kind place) entries)

-- the number of the entry that is used on a line of a book, from that line on
abbrev pub since_on : List Entry → HeightKind → ℕ × ℕ → Option Number
since_on entries kind place = option_map (λ entry. number_of (Since entry place.1)) (find (is_over kind place) entries)

-- the number of the sight on a line of a book
abbrev pub sight_on : ℕ × ℕ → Number
sight_on (book, line) = number.Added (record { book = book; first = line; last = line })

-- the book and the line of a row, if it has both
abbrev pub both : Option ℕ → Option ℕ → Option (ℕ × ℕ)
both (Some book) (Some line) = Some (book, line)
both book line = None

-- the number of a row of this kind, given its book and line, and its station or benchmark
abbrev pub number_in : List Entry → Kind → Option (ℕ × ℕ) → Option (List ℕ) → Option Number
number_in entries kind.Instrument place from = option_and_then (entered_on entries height.Instrument) place
number_in entries kind.Reflector place from = option_and_then (entered_on entries height.Reflector) place
number_in entries kind.InstrumentSince place from = option_and_then (since_on entries height.Instrument) place
number_in entries kind.ReflectorSince place from = option_and_then (since_on entries height.Reflector) place
number_in entries kind.Sight place from = option_map sight_on place
number_in entries kind.Benchmark place from = option_map number.Benchmark from
number_in entries kind.Book place from = None

-- the number of a row; a book has none
abbrev pub row_number : List Entry → Row → Option Number
row_number entries row = number_in entries row.kind (both row.book row.line) row.from

-- a number with its values changes
abbrev pub change_with : Option Number → Option Values → Option Remedy
change_with (Some number) (Some values) = Some (Change number values)
change_with number values = None

-- what puts a row of this kind right, given its book, and the change of its number
abbrev pub remedy_in : Kind → Option ℕ → Option Remedy → Option Remedy
remedy_in kind.Book book change = option_map MarkToMark book
remedy_in kind book change = change

-- what puts a row right
abbrev pub remedy_of : List Entry → Row → Option Remedy
remedy_of entries row = remedy_in row.kind row.book (change_with (row_number entries row) row.values)

-- by how much a number grows that gets the mildest of its values
abbrev pub mildest_growth : Values → ℤ
mildest_growth values = mildest_value values -ℤ values.given

-- whether the number has this sight; a book has all of its own
abbrev pub has_sight : Remedy → Observed → Bool
has_sight (Change number values) o = touches number o
has_sight (MarkToMark book) o = o.book == book

-- the change is within reach; a book can be read so
abbrev pub IsPossible : Survey → List Entry → Remedy → Type 0
IsPossible survey entries (Change number values) = unsigned_abs (mildest_growth values) ≤ reach_of number survey.observations
IsPossible survey entries (MarkToMark book) = IsReadable entries book survey.observations

-- an observation, put right
abbrev pub observation_with : List Entry → Remedy → Observed → Observed
observation_with entries (Change number values) = changed_observation number (mildest_growth values)
observation_with entries (MarkToMark book) = read_observation entries book

-- the survey, put right
abbrev pub survey_with : List Entry → Remedy → Survey → Survey
survey_with entries (Change number values) = changed number (mildest_growth values)
survey_with entries (MarkToMark book) = reread entries book
