-- The tables of a review, as comma-separated values.
use Rattle.std.specs.Prelude.{ℕ, List, [], ◌∷◌, Option, None, Some, codes, decimal, map}
use Rattle.th_units.specs.Metres.{metres}
use Rattle.th_csv.specs.Records.{Fields}
use Rattle.th_csv.specs.Texts.{csv_text}
use Rattle.th_review_rows.specs.Words.{benchmark_word, blamed_of, blames_of, kind_word, mistake_word, moves_of, shared_mistake_word}
use Rattle.th_review_rows.specs.declared.rows.PointRow.{PointRow}
use Rattle.th_review_rows.specs.declared.rows.ObservationRow.{ObservationRow}
use Rattle.th_review_rows.specs.declared.rows.EntryRow.{EntryRow}
use Rattle.th_review_rows.specs.declared.rows.BenchmarkRow.{BenchmarkRow}

-- a number that may be missing: its digits, or an empty field
abbrev pub number_field : Option ℕ → List ℕ
number_field None = []
number_field (Some number) = decimal number

abbrev pub points_header : Fields
points_header = codes "point" ∷ codes "height" ∷ codes "low" ∷ codes "high" ∷ codes "strength" ∷ []

-- the fields of a point: name, height, which is the lowest best one, lowest and highest best height, and strength
abbrev pub point_record : PointRow → Fields
point_record row = row.name ∷ metres row.low ∷ metres row.low ∷ metres row.high ∷ number_field row.strength ∷ []

-- the text of the table of points
abbrev pub points_text : List PointRow → List ℕ
points_text rows = csv_text (points_header ∷ map point_record rows)

unfoldable pub observations_header : Fields
observations_header = codes "number" ∷ codes "book" ∷ codes "line" ∷ codes "from" ∷ codes "to" ∷ codes "difference" ∷ codes "weight" ∷ codes "residual" ∷ codes "control" ∷ codes "mistake" ∷ codes "moves" ∷ codes "blames" ∷ codes "blamed" ∷ []

-- the fields of an observation
unfoldable pub observation_record : ObservationRow → Fields
observation_record row =
    decimal row.number ∷ decimal row.observation.book ∷ decimal row.observation.line ∷ row.observation.station ∷ row.observation.target ∷ metres row.observation.difference
    ∷ decimal row.weight ∷ metres row.residual ∷ number_field row.control ∷ mistake_word row.mistake
    ∷ number_field (moves_of row.blame) ∷ number_field (blames_of row.blame) ∷ number_field (blamed_of row.blame) ∷ []

-- the text of the table of observations
abbrev pub observations_text : List ObservationRow → List ℕ
observations_text rows = csv_text (observations_header ∷ map observation_record rows)

unfoldable pub entries_header : Fields
entries_header = codes "book" ∷ codes "line" ∷ codes "word" ∷ codes "station" ∷ codes "length" ∷ codes "sights" ∷ codes "weight" ∷ codes "mistake" ∷ codes "moves" ∷ codes "blames" ∷ codes "blamed" ∷ []

-- the fields of an entry
unfoldable pub entry_record : EntryRow → Fields
entry_record row =
    decimal row.entry.book ∷ decimal row.entry.line ∷ kind_word row.entry.kind ∷ row.entry.station ∷ metres row.entry.length
    ∷ decimal row.entry.sights ∷ decimal row.weight ∷ shared_mistake_word row.mistake
    ∷ number_field (moves_of row.blame) ∷ number_field (blames_of row.blame) ∷ number_field (blamed_of row.blame) ∷ []

-- the text of the table of entries
abbrev pub entries_text : List EntryRow → List ℕ
entries_text rows = csv_text (entries_header ∷ map entry_record rows)

unfoldable pub benchmarks_header : Fields
benchmarks_header = codes "point" ∷ codes "height" ∷ codes "sights" ∷ codes "weight" ∷ codes "strength" ∷ codes "mistake" ∷ codes "moves" ∷ codes "blames" ∷ codes "blamed" ∷ []

-- the fields of a benchmark
unfoldable pub benchmark_record : BenchmarkRow → Fields
benchmark_record row =
    row.name ∷ metres row.height ∷ decimal row.sights ∷ decimal row.weight ∷ number_field row.strength ∷ benchmark_word row.mistake
    ∷ number_field (moves_of row.blame) ∷ number_field (blames_of row.blame) ∷ number_field (blamed_of row.blame) ∷ []

-- the text of the table of benchmarks
abbrev pub benchmarks_text : List BenchmarkRow → List ℕ
benchmarks_text rows = csv_text (benchmarks_header ∷ map benchmark_record rows)
