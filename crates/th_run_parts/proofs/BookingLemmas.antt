-- What is owed for a table of differences that was read, and where its refusals come from.
use Rattle.std.proofs.Common.{◌≡◌, ◌≢◌, ◌⊎◌, ◌+◌, ◌<◌, ℕ, List, Err, take, length, ap, refl, inl, inr}
use Rattle.std.proofs.lemmas.Bool.{lt-ltb}
use Rattle.std.specs.Prelude.{Result}
use Rattle.th_book.specs.Books.{too_long as book_too_long}
use Rattle.th_book.specs.Limits.{max_book}
use Rattle.th_conversions.specs.Books.{book_of_table}
use Rattle.th_book.specs.declared.faults.BookKind.TheVariants as book_kind
use Rattle.th_conversions.specs.HeightFaults.{of_book}
use Rattle.th_conversions.specs.Limits.{max_differences}
use Rattle.th_conversions.specs.declared.height_faults.HeightFault.{HeightFault}
use Rattle.th_conversions.specs.declared.height_faults.HeightKind.{HeightKind}
use Rattle.th_conversions.specs.declared.height_faults.HeightKind.TheVariants as height_kind
use Rattle.th_conversions.specs.Tables.{no_memory, too_long}
use Rattle.th_conversions.specs.declared.faults.DifferenceFault.{DifferenceFault}
use Rattle.th_conversions.specs.declared.faults.DifferenceKind.{DifferenceKind}
use Rattle.th_conversions.specs.declared.faults.DifferenceKind.TheVariants as difference_kind
use Rattle.th_conversions.specs.Printed.{book_of_heights}
use Rattle.th_run_parts.proofs.Fronts.{front_answer}
use Rattle.th_run_parts.proofs.RunLemmas.{outcome_refused, unless_of}
use Rattle.th_run_parts.specs.Outcomes.{Outcome}
use Rattle.th_run_parts.specs.Writes.{IsWritten}
use Rattle.th_run_parts.specs.declared.refusals.Refusal.{Refusal}
use Rattle.th_run_parts.specs.declared.refusals.Refusal.TheVariants as refusal
use Rattle.th_run_parts.specs.Booked.{IsOfConversion}
use Rattle.th_run_parts.specs.declared.conversions.Conversion.{Conversion}
use Rattle.th_run_parts.specs.declared.conversions.Conversion.TheVariants.{Differences, Heights}

table_long : (text : List ℕ) → max_differences < length text → book_of_table text ≡ Err too_long
table_long text longer = rw (lt-ltb _ _ longer)

-- the front that was read has the book of its table
pub book_of_table-take : (text : List ℕ) → book_of_table (take (max_differences + 1) text) ≡ book_of_table text
book_of_table-take text = front_answer max_differences (Err too_long) book_of_table table_long text

heights_long : (text : List ℕ) → max_book < length text → book_of_heights text ≡ Err (of_book book_too_long)
heights_long text longer = rw (lt-ltb _ _ longer)

-- and so for a book with heights
pub book_of_heights-take : (text : List ℕ) → book_of_heights (take (max_book + 1) text) ≡ book_of_heights text
book_of_heights-take text = front_answer max_book (Err (of_book book_too_long)) book_of_heights heights_long text

-- a fault of a table of differences is out of memory, or the one that it has
pub difference_fault : {X : Type 0} (refuse : DifferenceFault → Refusal) (answer : Result X DifferenceFault) (fault : DifferenceFault) (own : Refusal)
    → (fault.kind ≡ difference_kind.NoMemory → own ≡ refusal.NoMemory) → (fault.kind ≢ difference_kind.NoMemory → own ≡ refuse fault)
    → (fault ≡ no_memory) ⊎ (answer ≡ Err fault) → (own ≡ refusal.NoMemory) ⊎ ((answer ≡ Err fault) × (own ≡ refuse fault))
difference_fault refuse answer fault own memory other (inl wanting) = inl (memory (ap (λ (it : DifferenceFault). it.kind) wanting))
difference_fault refuse answer fault own memory other (inr faulty) =
    elim (is_memory fault.kind) [ inl wanting ↦ inl (memory wanting) | inr real ↦ inr (faulty, other real) ]
  where
    is_memory : (kind : DifferenceKind) → (kind ≡ difference_kind.NoMemory) ⊎ (kind ≢ difference_kind.NoMemory)
    is_memory difference_kind.NoMemory = inl refl
    is_memory kind = inr (λ e. cc)

-- a fault of a book with heights is out of memory, or the one that it has
pub height_fault : {X : Type 0} (refuse : HeightFault → Refusal) (answer : Result X HeightFault) (fault : HeightFault) (own : Refusal)
    → (fault.kind ≡ height_kind.Book book_kind.NoMemory → own ≡ refusal.NoMemory) → (fault.kind ≢ height_kind.Book book_kind.NoMemory → own ≡ refuse fault)
    → (fault.kind ≢ height_kind.Book book_kind.NoMemory → answer ≡ Err fault) → (own ≡ refusal.NoMemory) ⊎ ((answer ≡ Err fault) × (own ≡ refuse fault))
height_fault refuse answer fault own memory other faulty =
    elim (is_memory fault.kind) [ inl wanting ↦ inl (memory wanting) | inr real ↦ inr (faulty real, other real) ]
  where
    is_memory : (kind : HeightKind) → (kind ≡ height_kind.Book book_kind.NoMemory) ⊎ (kind ≢ height_kind.Book book_kind.NoMemory)
    is_memory (height_kind.Book book_kind.NoMemory) = inl refl
    is_memory kind = inr (λ e. cc)

-- a refusal for an input is none of an output
input_unwritten : (X : Type 0) (conversion : Conversion) (own : Refusal) → IsOfConversion conversion own → IsWritten {X = X} (Err own) → ⊥
input_unwritten X Differences (refusal.Write which) is begun = is
input_unwritten X Heights (refusal.Write which) is begun = is
input_unwritten X conversion other is begun = begun

-- so one comes before the book is begun
pub book_refused : {A X K : Type 0} (Owes : Refusal → Type 0) (IsGiven HasWritten : A → Type 0) (conversion : Conversion) (own : Refusal) (old new : K)
    → IsOfConversion conversion own → Owes own → new ≡ old → Outcome {X = X} Owes IsGiven HasWritten (Err own) old new
book_refused {X = X} Owes IsGiven HasWritten conversion own old new of_input owes same =
    outcome_refused {X = X} Owes IsGiven HasWritten own old new (input_unwritten X conversion own of_input) (unless_of own (Owes own) owes) same
