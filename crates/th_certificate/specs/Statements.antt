-- What one record of a certificate states, given those before it.
use Rattle.std.specs.Prelude.{ℕ, ℤ, ◌+◌, ◌++◌, ◌&&◌, ◌==◌, Bool, List, [], ◌∷◌, length, Option, Some, None, Result, Ok, Err, if◌then◌else◌, bytes_eq, codes, is_none, is_some, nat_lt}
use Rattle.std.specs.Map.{lookup}
use Rattle.gsi_word.specs.Names.{name_of}
use Rattle.th_csv.specs.Records.{Fields}
use Rattle.th_certificate.specs.Certified.{HeightRows}
use Rattle.th_certificate.specs.Numbers.{cost_in, count_in, flow_in, height_in}
use Rattle.th_certificate.specs.declared.faults.CertKind.{CertKind}
use Rattle.th_certificate.specs.declared.faults.CertKind.TheVariants.{BadKind, BadName, FieldCount}
use Rattle.th_certificate.specs.declared.statements.Statement.{Statement}
use Rattle.th_certificate.specs.declared.statements.Statement.TheVariants.{Height, Low, High, Flow, Cost}

-- what the records of a certificate have stated so far: the version and the count of the version row, the rows of each kind, and the cost, if it was stated
pub record Draft : Type 0 where
  pub version : ℕ
  pub count : ℕ
  pub heights : HeightRows
  pub low : HeightRows
  pub high : HeightRows
  pub flows : List ℤ
  pub cost : Option ℕ

-- the kinds come in the order heights, low, high, flows, cost: no row of a kind may follow one of a later kind
abbrev pub may_have_flow : Draft → Bool
may_have_flow draft = is_none draft.cost && nat_lt (length draft.flows) draft.count

abbrev pub may_have_high : Draft → Bool
may_have_high draft = is_none draft.cost && ((length draft.flows == 0) && (draft.version == 2))

abbrev pub may_have_low : Draft → Bool
may_have_low draft = may_have_high draft && (length draft.high == 0)

abbrev pub may_have_height : Draft → Bool
may_have_height draft = is_none draft.cost && ((length draft.flows == 0) && ((length draft.high == 0) && (length draft.low == 0)))

-- the cost may come once all counted flows are there
abbrev pub may_have_cost : Draft → Bool
may_have_cost draft = is_none draft.cost && (length draft.flows == draft.count)

-- a name that no earlier row has
abbrev pub new_name : HeightRows → Option (List ℕ) → Result (List ℕ) CertKind
new_name rows None = Err BadName
new_name rows (Some name) = if is_some (lookup (bytes_eq name) rows) then Err BadName else Ok name

-- a row with this name, if its height can be read
abbrev pub row_with : List ℕ → Result ℤ CertKind → Result (List ℕ × ℤ) CertKind
row_with name (Ok height) = Ok (name, height)
row_with name (Err kind) = Err kind

-- the row of a name and a height; the fault of the name comes first
abbrev pub row_of : Result (List ℕ) CertKind → Result ℤ CertKind → Result (List ℕ × ℤ) CertKind
row_of (Ok name) height = row_with name height
row_of (Err kind) height = Err kind

-- a row after the earlier ones of its kind: a new name, and a height in metres
abbrev pub row_in : HeightRows → List ℕ → List ℕ → Result (List ℕ × ℤ) CertKind
row_in rows key number = row_of (new_name rows (name_of key)) (height_in number)

-- the statement made from what was read
abbrev pub states : {A : Type 0} → (A → Statement) → Result A CertKind → Result Statement CertKind
states make (Ok read) = Ok (make read)
states make (Err kind) = Err kind

-- what a record of three fields states
abbrev pub said : Draft → List ℕ → List ℕ → List ℕ → Result Statement CertKind
said draft kind key number =
    if bytes_eq kind (codes "H") && may_have_height draft then states (λ row. Height row.0 row.1) (row_in draft.heights key number)
    else (if bytes_eq kind (codes "L") && may_have_low draft then states (λ row. Low row.0 row.1) (row_in draft.low key number)
    else (if bytes_eq kind (codes "U") && may_have_high draft then states (λ row. High row.0 row.1) (row_in draft.high key number)
    else (if bytes_eq kind (codes "F") && may_have_flow draft then states Flow (flow_in (length draft.flows + 1) key number)
    else (if bytes_eq kind (codes "Z") && (may_have_cost draft && bytes_eq key (codes "cost")) then states Cost (cost_in number)
    else Err BadKind))))

-- what a record states, or its first kind of fault
abbrev pub statement_of : Draft → Fields → Result Statement CertKind
statement_of draft (kind ∷ key ∷ number ∷ []) = said draft kind key number
statement_of draft _ = Err FieldCount

-- the draft with one more statement
abbrev pub with_statement : Draft → Statement → Draft
with_statement draft (Height name height) = record draft { heights = draft.heights ++ (name, height) ∷ [] }
with_statement draft (Low name height) = record draft { low = draft.low ++ (name, height) ∷ [] }
with_statement draft (High name height) = record draft { high = draft.high ++ (name, height) ∷ [] }
with_statement draft (Flow flow) = record draft { flows = draft.flows ++ flow ∷ [] }
with_statement draft (Cost cost) = record draft { cost = Some cost }

-- the version in a version row's key, if it is a known one
abbrev pub version_in : List ℕ → Option ℕ
version_in key = if bytes_eq key (codes "1") then Some 1 else (if bytes_eq key (codes "2") then Some 2 else None)

-- a draft that has this version, this count and nothing else
abbrev pub empty_draft : ℕ → ℕ → Draft
empty_draft version count = record { version = version; count = count; heights = []; low = []; high = []; flows = []; cost = None }

-- the draft of a version row with this version and count
abbrev pub counted : Option ℕ → Result ℕ CertKind → Result Draft CertKind
counted None count = Err BadKind
counted (Some version) (Ok count) = Ok (empty_draft version count)
counted (Some version) (Err kind) = Err kind

-- the draft that record 2, the version row, begins, or the record's first kind of fault
abbrev pub begun : Fields → Result Draft CertKind
begun (kind ∷ key ∷ number ∷ []) = counted (if bytes_eq kind (codes "V") then version_in key else None) (count_in number)
begun _ = Err FieldCount
