-- The names that a row with number 1 doubts.
use Rattle.std.specs.Prelude.{ℕ, ◌==◌, List, [], ◌∷◌, Option, None, Some, if◌then◌else◌, option_map}
use Rattle.th_entries.specs.declared.entries.Entry.{Entry}
use Rattle.th_entries.specs.declared.entries.HeightKind.TheVariants as height
use Rattle.th_changes.specs.declared.numbers.Number.{Number}
use Rattle.th_changes.specs.declared.numbers.Number.TheVariants as number
use Rattle.th_explain_texts.specs.declared.rows.Kind.{Kind}
use Rattle.th_explain_texts.specs.declared.rows.Kind.TheVariants as kind
use Rattle.th_explain_texts.specs.declared.rows.Row.{Row}
use Rattle.th_meant.specs.Keyed.{entry_of}
use Rattle.th_reliability.specs.declared.sights.Sights.{Sights}
use Rattle.th_review_rows.specs.Entries.{sights_of}
use Rattle.th_names.specs.declared.doubts.Doubt.{Doubt}
use Rattle.th_names.specs.declared.doubts.Doubt.TheVariants.{Sight, LoneSight, Setup, Benchmark}
use Rattle.th_names.specs.declared.namings.Naming.{Naming}
use Rattle.th_names.specs.declared.namings.Naming.TheVariants.{Row as RowOf, Station, Target}

-- the station of a setup that has one sight
abbrev pub lone_station : Option Entry → Option (List ℕ)
lone_station None = None
lone_station (Some entry) = if entry.sights == 1 then Some entry.station else None

-- a sight to a target, which may be all that its setup has
abbrev pub sight_with : Sights → List ℕ → Option (List ℕ) → Doubt
sight_with sights target None = Sight sights target
sight_with sights target (Some station) = LoneSight sights target station

-- the sight of a line
abbrev pub sight_in : ℕ → ℕ → Sights
sight_in book line = record { book = book; first = line; last = line }

abbrev pub sight_doubt : Option ℕ → Option ℕ → Option (List ℕ) → Option (List ℕ) → Option Doubt
sight_doubt (Some book) (Some line) (Some target) station = Some (sight_with (sight_in book line) target station)
sight_doubt (Some book) (Some line) None station = None
sight_doubt (Some book) None target station = None
sight_doubt None line target station = None

-- the sights that use an instrument height
abbrev pub setup_with : Entry → Doubt
setup_with entry = Setup (sights_of entry) entry.station

-- what a row of a kind doubts, given the instrument height that is in force in its line
abbrev pub doubt_with : Kind → Row → Option Entry → Option Doubt
doubt_with kind.Instrument row setup = option_map setup_with setup
doubt_with kind.Reflector row setup = None
doubt_with kind.InstrumentSince row setup = None
doubt_with kind.ReflectorSince row setup = None
doubt_with kind.Sight row setup = sight_doubt row.book row.line row.to (lone_station setup)
doubt_with kind.Benchmark row setup = option_map Benchmark row.from
doubt_with kind.Book row setup = None

-- what a row doubts whose names may be wrong: a sight, a setup, or a benchmark
abbrev pub doubt_of : List Entry → Row → Option Doubt
doubt_of entries row = doubt_with row.kind row (entry_of entries row height.Instrument)

-- its number
abbrev pub number_of : Doubt → Number
number_of (Sight sights target) = number.Added sights
number_of (LoneSight sights target station) = number.Added sights
number_of (Setup sights station) = number.Added sights
number_of (Benchmark name) = number.Benchmark name

-- its names: a target before a station
abbrev pub namings_of : Doubt → List Naming
namings_of (Sight sights target) = Target sights target ∷ []
namings_of (LoneSight sights target station) = Target sights target ∷ Station sights station ∷ []
namings_of (Setup sights station) = Station sights station ∷ []
namings_of (Benchmark name) = RowOf name ∷ []
