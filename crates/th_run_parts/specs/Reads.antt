-- How the sources of a run are read.
use Rattle.std.specs.Prelude.{true, false, ◌≡◌, ◌≢◌, ◌+◌, ◌<◌, ◌≤◌, ℕ, Bool, List, [], ◌∷◌, Option, Some, None, IfSome, IsSomeAnd, Result, Ok, Err, if◌then◌else◌, length, nat_eq}
use Rattle.th_book.specs.declared.faults.BookKind.TheVariants as book_kind
use Rattle.th_certificate.specs.declared.faults.CertKind.TheVariants as cert_kind
use Rattle.std.specs.List.{All, Contains}
use Rattle.th_devices.specs.Devices.{IsReady, SourceState}
use Rattle.th_devices.specs.Transfer.{IsReadUpTo}
use Rattle.th_limits.specs.Limits.{max_books}
use Rattle.th_network.specs.declared.faults.NetFault.TheVariants as net_fault
use Rattle.th_tables.specs.declared.faults.TableKind.TheVariants as table_kind
use Rattle.th_run_parts.specs.Inputs.{limit_of}
use Rattle.th_inputs.specs.declared.inputs.Input.{Input}
use Rattle.th_inputs.specs.declared.inputs.Input.TheVariants as input
use Rattle.th_run_parts.specs.declared.outputs.Output.{Output}
use Rattle.th_run_parts.specs.declared.refusals.Refusal.{Refusal}
use Rattle.th_run_parts.specs.declared.refusals.Refusal.TheVariants as refusal

-- this input is read before that one: changes, books by their numbers, then the benchmarks, the weights, and the certificate. The differences are read alone
abbrev pub IsReadBefore : Input → Input → Type 0
IsReadBefore (input.Book own) (input.Book other) = own < other
IsReadBefore input.Changes (input.Book other) = Unit {0}
IsReadBefore own input.Changes = ⊥
IsReadBefore own (input.Book other) = ⊥
IsReadBefore (input.Book own) other = Unit {0}
IsReadBefore own input.Benchmarks = ⊥
IsReadBefore input.Benchmarks other = Unit {0}
IsReadBefore own input.Weights = ⊥
IsReadBefore input.Weights other = Unit {0}
IsReadBefore own other = ⊥

-- two inputs are one
abbrev pub same_input : Input → Input → Bool
same_input (input.Book own) (input.Book other) = nat_eq own other
same_input input.Benchmarks input.Benchmarks = true
same_input input.Weights input.Weights = true
same_input input.Certificate input.Certificate = true
same_input input.Differences input.Differences = true
same_input input.Changes input.Changes = true
same_input own other = false

-- the input that a refusal comes from: of changes that do not fit, the book; none for the network, for an output, and for out of memory, which may come from any
abbrev pub decided_by : Refusal → Option Input
decided_by (refusal.Book number fault) = Some (input.Book number)
decided_by (refusal.Benchmarks fault) = Some input.Benchmarks
decided_by (refusal.Weights fault) = Some input.Weights
decided_by (refusal.Certificate fault) = Some input.Certificate
decided_by (refusal.Differences fault) = Some input.Differences
decided_by (refusal.Heights fault) = Some (input.Book 1)
decided_by (refusal.Changes fault) = Some input.Changes
decided_by (refusal.Unfit fault) = Some (input.Book 1)
decided_by (refusal.Mended fault) = Some (input.Book 1)
decided_by (refusal.Read which) = Some which
decided_by other = None

-- a refusal that comes from this input, or out of memory
abbrev pub IsFrom : Input → Refusal → Type 0
IsFrom which refusal.NoMemory = Unit {0}
IsFrom which own = decided_by own ≡ Some which

-- a refusal that comes from an input, or out of memory
abbrev pub IsFromInput : Refusal → Type 0
IsFromInput (refusal.Network fault) = ⊥
IsFromInput (refusal.Write which) = ⊥
IsFromInput other = Unit {0}

-- a refusal that comes from behind this input: from one that is read later, from none, or out of memory
abbrev pub IsBehind : Input → Refusal → Type 0
IsBehind which own = IfSome (decided_by own) (λ at. IsReadBefore which at)

-- how many failed reads of this input a refusal reports: 1 or 0
abbrev pub reads_behind : Input → Refusal → ℕ
reads_behind which (refusal.Read own) = if same_input which own then 1 else 0
reads_behind which other = 0

-- the refusal in a result, if it is one
abbrev pub refused : {X : Type 0} → Result X Refusal → Option Refusal
refused (Ok x) = None
refused (Err own) = Some own

-- how many failed reads of this input there are in a run that ends with this refusal, or with none
abbrev pub failed_reads_of : Input → Option Refusal → ℕ
failed_reads_of which None = 0
failed_reads_of which (Some own) = reads_behind which own

-- the refusal comes from an input that is read before this one
abbrev pub IsPast : Input → Option Refusal → Type 0
IsPast which None = ⊥
IsPast which (Some own) = IsSomeAnd (decided_by own) (λ at. IsReadBefore at which)

-- How a source is read in a run with this refusal, or with none: a read of it failed just where the refusal says so; it is read at most once for each byte
-- that the input may have and once more, and so far at most; and it is untouched where an input before it decided the answer.
pub record IsReadFor {S : Type 0} (state_of : S → SourceState) (which : Input) (answer : Option Refusal) (old new : S) : Type 0 where
  pub read : IsReadUpTo (limit_of which + 1) (failed_reads_of which answer) (state_of old) (state_of new)
  pub untouched : IsPast which answer → new ≡ old

-- for each book, numbered from this one on, its states before and after are related by `R`
abbrev pub EachBook : {S : Type 0} → (ℕ → S → S → Type 0) → ℕ → List S → List S → Type 0
EachBook R number (old ∷ olds) (new ∷ news) = R number old new × EachBook R (number + 1) olds news
EachBook R number [] [] = Unit {0}
EachBook R number olds news = ⊥

-- the states of an optional source before and after are related by `R`, if it is there
abbrev pub IfPresent : {S : Type 0} → (S → S → Type 0) → Option S → Option S → Type 0
IfPresent R (Some old) (Some new) = R old new
IfPresent R None None = Unit {0}
IfPresent R old new = ⊥

-- how the sources of books, benchmarks and weights are read in a run with this refusal, or with none
pub record AreRead {B T W : Type 0} (of_book : B → SourceState) (of_table : T → SourceState) (of_weights : W → SourceState) (answer : Option Refusal)
    (old_books new_books : List B) (old_benchmarks new_benchmarks : T) (old_weights new_weights : Option W) : Type 0 where
  pub books : EachBook (λ number. IsReadFor of_book (input.Book number) answer) 1 old_books new_books
  pub benchmarks : IsReadFor of_table input.Benchmarks answer old_benchmarks new_benchmarks
  pub weights : IfPresent (IsReadFor of_weights input.Weights answer) old_weights new_weights

-- a run may read these sources: there are at most `max_books` books, and no source was called too often before
pub record AreReady {B T W : Type 0} (of_book : B → SourceState) (of_table : T → SourceState) (of_weights : W → SourceState) (books : List B) (benchmarks : T)
    (weights : Option W) : Type 0 where
  pub few_books : length books ≤ max_books
  pub each_book : All (λ book. IsReady (of_book book).counts) books
  pub table : IsReady (of_table benchmarks).counts
  pub if_weights : IfSome weights (λ own. IsReady (of_weights own).counts)

-- a run: whether it reads a certificate after the tables, and its outputs in the order in which they are written
pub record Run : Type 0 where
  pub has_certificate : Bool
  pub outputs : List Output

-- A refusal for the book with this number, or out of memory. A fault in the refusal is never `NoMemory`.
abbrev pub IsOfBook : ℕ → Refusal → Type 0
IsOfBook number (refusal.Book own fault) = (own ≡ number) × (fault.kind ≢ book_kind.NoMemory)
IsOfBook number (refusal.Read which) = which ≡ input.Book number
IsOfBook number refusal.NoMemory = Unit {0}
IsOfBook number other = ⊥

-- A refusal for a book with a number from `low` up to and without `high`, or out of memory. A fault in the refusal is never `NoMemory`.
abbrev pub IsOfBooks : ℕ → ℕ → Refusal → Type 0
IsOfBooks low high (refusal.Book own fault) = (low ≤ own) × (own < high) × (fault.kind ≢ book_kind.NoMemory)
IsOfBooks low high (refusal.Read (input.Book own)) = (low ≤ own) × (own < high)
IsOfBooks low high refusal.NoMemory = Unit {0}
IsOfBooks low high other = ⊥

-- A refusal for one of this many books, counted from 1, for the benchmarks, or for the weights if
-- there are any; or out of memory. A fault in the refusal is never `NoMemory`.
abbrev pub IsOfInputs : ℕ → Bool → Refusal → Type 0
IsOfInputs books weights (refusal.Book number fault) = (1 ≤ number) × (number ≤ books) × (fault.kind ≢ book_kind.NoMemory)
IsOfInputs books weights (refusal.Benchmarks fault) = fault.kind ≢ table_kind.NoMemory
IsOfInputs books weights (refusal.Weights fault) = (weights ≡ true) × (fault.kind ≢ table_kind.NoMemory)
IsOfInputs books weights (refusal.Read (input.Book number)) = (1 ≤ number) × (number ≤ books)
IsOfInputs books weights (refusal.Read input.Benchmarks) = Unit {0}
IsOfInputs books weights (refusal.Read input.Weights) = weights ≡ true
IsOfInputs books weights refusal.NoMemory = Unit {0}
IsOfInputs books weights other = ⊥

-- The refusal names a device of the run: an input, where only a run that has one names the certificate, or one of its outputs. A fault in the refusal is never `NoMemory`.
abbrev pub IsNamed : ℕ → Bool → Run → Refusal → Type 0
IsNamed books weights run (refusal.Certificate fault) = (run.has_certificate ≡ true) × (fault.kind ≢ cert_kind.NoMemory)
IsNamed books weights run (refusal.Read input.Certificate) = run.has_certificate ≡ true
IsNamed books weights run (refusal.Network fault) = fault ≢ net_fault.NoMemory
IsNamed books weights run (refusal.Write which) = Contains run.outputs which
IsNamed books weights run other = IsOfInputs books weights other
