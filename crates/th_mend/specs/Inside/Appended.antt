-- What is known of a change that was appended, and of one that was not.
use Rattle.std.specs.Prelude.{◌≡◌, ℕ, List, [], ◌∷◌, ◌++◌, Ok, Err}
use Rattle.th_csv.specs.Records.{Fields}
use Rattle.th_mend.specs.Fields.{change_in}
use Rattle.th_mend.specs.declared.changes.Change.{Change}
use Rattle.th_mend.specs.declared.change_faults.ChangeFault.{ChangeFault}
use Rattle.th_mend.specs.declared.change_faults.ChangeKind.{ChangeKind}

-- the change of a record was appended
pub record IsAppended (fields : Fields) (old new : List Change) : Type 0 where
  pub change : Change
  pub is : change_in fields ≡ Ok change
  pub added : new ≡ old ++ change ∷ []

-- the fault is that of a record with this number
pub record IsFaulty (number : ℕ) (fields : Fields) (fault : ChangeFault) : Type 0 where
  pub kind : ChangeKind
  pub is : change_in fields ≡ Err kind
  pub row : fault ≡ record { row = number; kind = kind }
