use Rattle.std.specs.Prelude.{◌≡◌, ℕ, Bool, true, false, List, [], ◌∷◌}
use Rattle.csv.specs.Reading.{default_config, records, strip_bom}

-- a record: its fields
abbrev pub Fields : Type 0
Fields = List (List ℕ)

-- The records of a text as `csv` reads them by default, with any number of fields each, and with
-- the fields unchanged. A byte order mark at the very beginning is dropped.
abbrev pub records_of : List ℕ → List Fields
records_of text = records default_config (strip_bom text)

-- what is left to read: the records, and whether an allocation failed
pub record Unread : Type 0 where
  pub records : List Fields
  pub refused : Bool

-- a read returned the first of the records that were left, or no record was left
abbrev pub ReadsOne : List Fields → List Fields → Bool → Fields → Type 0
ReadsOne old new true fields = old ≡ fields ∷ new
ReadsOne old new false fields = (old ≡ []) × (new ≡ [])
