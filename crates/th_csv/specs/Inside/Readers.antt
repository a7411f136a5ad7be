-- What a reader of `csv` over memory has left, and its state.
use Rattle.std.specs.Prelude.{◌≡◌, ℕ, ◌+◌, Bool, true, false, List, [], ◌∷◌, length, Option, Some, None, IsSome}
use Rattle.std.specs.Borrow.{Bor}
use Rattle.csv.specs.Machine.{ends_at_end}
use Rattle.csv.specs.Reading.{Ready, default_config, is_flexible, reader_config, reader_state, reader_trim, records_from, source_of}
use Rattle.csv.specs.declared.parser.State.{State}
use Rattle.csv.specs.declared.reader.Reader.{Reader}
use Rattle.csv.specs.declared.reader.Trim.TheVariants as trim
use Rattle.th_csv.specs.Records.{Fields}
use Rattle.th_csv.specs.declared.reading.Progress.{Progress}
use Rattle.th_csv.specs.declared.reading.Progress.TheVariants.{Reading, Ended, Refused}

-- a reader over bytes in memory
abbrev pub BytesReader : Type 0
BytesReader = Reader (Bor (List ℕ))

-- the bytes that a reader has left; none if it has failed
abbrev pub bytes_left : BytesReader → Option (List ℕ)
bytes_left reader = source_of (λ s. Some s.now) reader

-- the records that a reader in this state finds in these bytes
abbrev pub records_from_state : State → Option (List ℕ) → List Fields
records_from_state state None = []
records_from_state state (Some bytes) = records_from default_config (length bytes + 1) state bytes

-- the records that a reader has left
abbrev pub records_left : BytesReader → List Fields
records_left reader = records_from_state (reader_state reader) (bytes_left reader)

-- a reader between two records, which gives each record as it is, with any number of fields
pub record IsReading (reader : BytesReader) : Type 0 where
  pub ready : Ready reader
  pub untrimmed : reader_trim reader ≡ trim.None
  pub flexible : is_flexible reader ≡ true
  pub plain : reader_config reader ≡ default_config
  pub going : IsSome (bytes_left reader)
  pub between : ends_at_end (reader_state reader) ≡ false

-- a read found the first of the records that were left, and the reader is now after it; or no record was left
abbrev pub ReadsFront : BytesReader → BytesReader → Bool → Fields → Type 0
ReadsFront old new true fields = IsReading new × (records_left old ≡ fields ∷ records_left new)
ReadsFront old new false fields = records_left old ≡ []

-- the records still to come at this progress
abbrev pub records_due : Progress → BytesReader → List Fields
records_due Reading reader = records_left reader
records_due Ended reader = []
records_due Refused reader = []

-- an allocation failed
abbrev pub is_refused : Progress → Bool
is_refused Reading = false
is_refused Ended = false
is_refused Refused = true

-- a reader that is still reading is between two records
abbrev pub StandsRight : Progress → BytesReader → Type 0
StandsRight Reading reader = IsReading reader
StandsRight Ended reader = Unit {0}
StandsRight Refused reader = Unit {0}
