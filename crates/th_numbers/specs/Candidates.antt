-- A number of a survey that somebody read or typed, and where it is.
use Rattle.std.specs.Prelude.{ℕ, ℤ, pos, Bool, List, Option, Some, None, not}
use Rattle.std.specs.List.{count_by}
use Rattle.std.specs.Ordering.{int_eq}
use Rattle.th_observations.specs.Observed.{Observed}
use Rattle.th_entries.specs.declared.entries.Entry.{Entry}
use Rattle.th_entries.specs.declared.entries.HeightKind.{HeightKind}
use Rattle.th_entries.specs.declared.entries.HeightKind.TheVariants as height
use Rattle.th_changes.specs.declared.numbers.Number.{Number}
use Rattle.th_changes.specs.declared.numbers.Number.TheVariants as number
use Rattle.th_changes.specs.Numbers.{touch}
use Rattle.th_explain_texts.specs.declared.rows.Kind.{Kind}
use Rattle.th_explain_texts.specs.declared.rows.Kind.TheVariants as kind
use Rattle.th_network.specs.Links.{base}
use Rattle.th_network.specs.Networks.{Survey}
use Rattle.th_reliability.specs.Sights.{in_sights}
use Rattle.th_reliability.specs.declared.sights.Sights.{Sights}
use Rattle.th_review_rows.specs.Entries.{sights_of}
use Rattle.th_tables.specs.Rows.{BenchmarkRows}
use Rattle.th_numbers.specs.declared.candidates.Candidate.{Candidate}
use Rattle.th_numbers.specs.declared.candidates.Candidate.TheVariants.{Entered, Since, Sight, Benchmark}
use Rattle.th_numbers.specs.declared.candidates.Label.{Label}

-- a height over some sights: that of the instrument is added to their differences, that of the reflector is subtracted
abbrev pub number_over : HeightKind → Sights → Number
number_over height.Instrument sights = number.Added sights
number_over height.Reflector sights = number.Subtracted sights

-- the sights of an entry from a line on
abbrev pub sights_since : Entry → ℕ → Sights
sights_since entry line = record { book = entry.book; first = line; last = entry.last }

-- the sight of an observation alone
abbrev pub sight_of : Observed → Sights
sight_of o = record { book = o.book; first = o.line; last = o.line }

-- what a number changes
abbrev pub number_of : Candidate → Number
number_of (Entered entry) = number_over entry.kind (sights_of entry)
number_of (Since entry line) = number_over entry.kind (sights_since entry line)
number_of (Sight o) = number.Added (sight_of o)
number_of (Benchmark place name) = number.Benchmark name

-- the whole entry of a change that was forgotten; no other number is a part of one
abbrev pub whole_of : Candidate → Option Number
whole_of (Entered entry) = None
whole_of (Since entry line) = Some (number_over entry.kind (sights_of entry))
whole_of (Sight o) = None
whole_of (Benchmark place name) = None

-- the value that somebody read or typed; the height of a benchmark is that of the table
abbrev pub given_of : BenchmarkRows → Candidate → ℤ
given_of benchmarks (Entered entry) = entry.length
given_of benchmarks (Since entry line) = entry.length
given_of benchmarks (Sight o) = o.difference
given_of benchmarks (Benchmark place name) = base benchmarks name

-- whether a number touches an observation
abbrev pub touches : Number → Observed → Bool
touches own o = not (int_eq (touch own o) (pos 0))

-- how many sights a number has
abbrev pub sight_count : Survey → Number → ℕ
sight_count survey own = count_by (touches own) survey.observations

-- how many of the observations are among the sights
abbrev pub count_in : List Observed → Sights → ℕ
count_in observations sights = count_by (in_sights sights) observations

-- the kind of an entered height, and of a change of one that was forgotten
abbrev pub entered_kind : HeightKind → Kind
entered_kind height.Instrument = kind.Instrument
entered_kind height.Reflector = kind.Reflector

abbrev pub since_kind : HeightKind → Kind
since_kind height.Instrument = kind.InstrumentSince
since_kind height.Reflector = kind.ReflectorSince

-- The columns that say which number it is. An entry has the last line whose word repeats it, and its number has no target; a benchmark has no book.
abbrev pub entered_label : Entry → Label
entered_label entry = record {
  kind = entered_kind entry.kind;
  book = Some entry.book;
  line = Some entry.line;
  last = Some entry.repeated;
  from = Some entry.station;
  to = None;
}

abbrev pub since_label : Entry → ℕ → Label
since_label entry line = record { kind = since_kind entry.kind; book = Some entry.book; line = Some line; last = None; from = Some entry.station; to = None }

abbrev pub label_of : Candidate → Label
label_of (Entered entry) = entered_label entry
label_of (Since entry line) = since_label entry line
label_of (Sight o) = record { kind = kind.Sight; book = Some o.book; line = Some o.line; last = None; from = Some o.station; to = Some o.target }
label_of (Benchmark place name) = record { kind = kind.Benchmark; book = None; line = Some place; last = None; from = Some name; to = None }
