-- The rows of a certificate, and what each states.
use Rattle.std.specs.Prelude.{◌≡◌, ℕ, ℤ, List, [], ◌∷◌, ◌++◌, Option, Some, None, Ok, bytes_eq, codes, length}
use Rattle.std.specs.List.{AllZip, IsDistinct, enumerate_from}
use Rattle.std.specs.Map.{keys_of}
use Rattle.gsi_word.specs.Names.{name_of}
use Rattle.th_csv.specs.Records.{Fields}
use Rattle.th_certificate.specs.Certified.{Certified, HeightRows}
use Rattle.th_certificate.specs.Numbers.{cost_in, count_in, flow_in, height_in}
use Rattle.th_certificate.specs.Statements.{version_in}
use Rattle.th_certificate.specs.Texts.{header_row}

-- a version row: its key is the version, 1 or 2, and its number counts the flows
pub record IsVersionRow (row : Fields) (version count : ℕ) : Type 0 where
  pub key : List ℕ
  pub number : List ℕ
  pub fields : row ≡ codes "V" ∷ key ∷ number ∷ []
  pub says : version_in key ≡ Some version
  pub counts : count_in number ≡ Ok count

-- a row with a name and its height, under the letter of its kind
pub record IsHeightRow (letter : List ℕ) (row : Fields) (said : List ℕ × ℤ) : Type 0 where
  pub key : List ℕ
  pub number : List ℕ
  pub fields : row ≡ letter ∷ key ∷ number ∷ []
  pub name : name_of key ≡ Some said.0
  pub height : height_in number ≡ Ok said.1

-- a row with a flow's number and the flow
pub record IsFlowRow (row : Fields) (said : ℕ × ℤ) : Type 0 where
  pub key : List ℕ
  pub number : List ℕ
  pub fields : row ≡ codes "F" ∷ key ∷ number ∷ []
  pub flow : flow_in said.0 key number ≡ Ok said.1

-- the row with the cost
pub record IsCostRow (row : Fields) (cost : ℕ) : Type 0 where
  pub number : List ℕ
  pub fields : row ≡ codes "Z" ∷ codes "cost" ∷ number ∷ []
  pub costs : cost_in number ≡ Ok cost

-- rows that state these heights one after the other, no name twice
pub record SayHeights (letter : List ℕ) (rows : List Fields) (heights : HeightRows) : Type 0 where
  pub each : AllZip (IsHeightRow letter) rows heights
  pub distinct : IsDistinct bytes_eq (keys_of heights)

-- the same for the lowest or the highest heights, which version 2 has; version 1 has no such rows
abbrev pub SaySpans : ℕ → List ℕ → List Fields → Option HeightRows → Type 0
SaySpans version letter rows (Some heights) = (version ≡ 2) × SayHeights letter rows heights
SaySpans version letter rows None = (version ≡ 1) × (rows ≡ [])

-- rows that state these flows one after the other, numbered from 1
abbrev pub SayFlows : List Fields → List ℤ → Type 0
SayFlows rows flows = AllZip IsFlowRow rows (enumerate_from 1 flows)

-- the records are the rows of a certificate, in this order: the header; the version and the
-- count of the flows; the heights; the lowest; the highest; the flows; the cost
pub record IsCertificate (records : List Fields) (it : Certified) : Type 0 where
  pub version_row : Fields
  pub height_rows : List Fields
  pub low_rows : List Fields
  pub high_rows : List Fields
  pub flow_rows : List Fields
  pub cost_row : Fields
  pub order : records ≡ header_row ∷ version_row ∷ height_rows ++ (low_rows ++ (high_rows ++ (flow_rows ++ cost_row ∷ [])))
  pub version : IsVersionRow version_row it.version (length it.flows)
  pub heights : SayHeights (codes "H") height_rows it.heights
  pub low : SaySpans it.version (codes "L") low_rows it.low
  pub high : SaySpans it.version (codes "U") high_rows it.high
  pub flows : SayFlows flow_rows it.flows
  pub cost : IsCostRow cost_row it.cost
