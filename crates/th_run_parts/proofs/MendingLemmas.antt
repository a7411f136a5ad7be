-- What is owed for a table of changes and a book, and where refusals come from.
use Rattle.std.proofs.Common.{◌≡◌, ◌≢◌, ◌⊎◌, ◌+◌, ◌<◌, ℕ, List, Some, None, Ok, Err, length, take, refl, ap, sym, subst, inl, inr}
use Rattle.std.specs.Prelude.{Result}
use Rattle.std.proofs.lemmas.Bool.{lt-ltb}
use Rattle.th_book.specs.Books.{too_long as book_too_long}
use Rattle.th_book.specs.Limits.{max_book}
use Rattle.th_mend.specs.MendedBooks.{mended}
use Rattle.th_mend.specs.declared.faults.MendFault.{MendFault}
use Rattle.th_mend.specs.declared.faults.MendFault.TheVariants as mend_fault
use Rattle.th_mend.specs.Limits.{max_changes}
use Rattle.th_mend.specs.Tables.{changes_of, no_memory, too_long}
use Rattle.th_mend.specs.declared.changes.Change.{Change}
use Rattle.th_mend.specs.declared.change_faults.ChangeFault.{ChangeFault}
use Rattle.th_mend.specs.declared.change_faults.ChangeKind.{ChangeKind}
use Rattle.th_mend.specs.declared.change_faults.ChangeKind.TheVariants as change_kind
use Rattle.th_inputs.specs.declared.inputs.Input.TheVariants as input
use Rattle.th_run_parts.specs.Inputs.{Meets, Owed, and_then}
use Rattle.th_run_parts.specs.Outcomes.{Outcome}
use Rattle.th_run_parts.specs.Reads.{IsBehind}
use Rattle.th_run_parts.specs.Writes.{IsWritten}
use Rattle.th_run_parts.specs.declared.refusals.Refusal.{Refusal}
use Rattle.th_run_parts.specs.declared.refusals.Refusal.TheVariants as refusal
use Rattle.th_run_parts.proofs.Fronts.{book_long, front_answer}
use Rattle.th_run_parts.proofs.RunLemmas.{outcome_refused, unless_of}
use Rattle.th_run_parts.proofs.SourceLemmas.{IsFromElsewhere}
use Rattle.th_run_parts.specs.Mended.{IsOfChanged, IsOfChanges, refusal_for}

table_long : (text : List ℕ) → max_changes < length text → changes_of text ≡ Err too_long
table_long text longer = rw (lt-ltb _ _ longer)

-- the front that was read has the changes of its table
pub changes_of-take : (text : List ℕ) → changes_of (take (max_changes + 1) text) ≡ changes_of text
changes_of-take text = front_answer max_changes (Err too_long) changes_of table_long text

mended_long : (changes : List Change) (text : List ℕ) → max_book < length text → mended changes text ≡ Err (mend_fault.Book book_too_long)
mended_long changes text longer = rw (book_long 1 text longer) refl

-- and so for the book
pub mended-take : (changes : List Change) (text : List ℕ) → mended changes (take (max_book + 1) text) ≡ mended changes text
mended-take changes text = front_answer max_book (Err (mend_fault.Book book_too_long)) (mended changes) (mended_long changes) text

-- a fault of a table of changes is out of memory, or the one that it has
pub change_fault : {X : Type 0} (refuse : ChangeFault → Refusal) (answer : Result X ChangeFault) (fault : ChangeFault) (own : Refusal)
    → (fault.kind ≡ change_kind.NoMemory → own ≡ refusal.NoMemory) → (fault.kind ≢ change_kind.NoMemory → own ≡ refuse fault)
    → (fault ≡ no_memory) ⊎ (answer ≡ Err fault) → (own ≡ refusal.NoMemory) ⊎ ((answer ≡ Err fault) × (own ≡ refuse fault))
change_fault refuse answer fault own memory other (inl wanting) = inl (memory (ap (λ (it : ChangeFault). it.kind) wanting))
change_fault refuse answer fault own memory other (inr faulty) =
    elim (is_memory fault.kind) [ inl wanting ↦ inl (memory wanting) | inr real ↦ inr (faulty, other real) ]
  where
    is_memory : (kind : ChangeKind) → (kind ≡ change_kind.NoMemory) ⊎ (kind ≢ change_kind.NoMemory)
    is_memory change_kind.NoMemory = inl refl
    is_memory kind = inr (λ e. cc)

is_memory : (own : Refusal) → (own ≡ refusal.NoMemory) ⊎ (own ≢ refusal.NoMemory)
is_memory refusal.NoMemory = inl refl
is_memory own = inr (λ e. cc)

-- so is the reason why there is no mended book
pub mend_fault_told : (answer : Result (List ℕ) MendFault) (fault : MendFault) (own : Refusal) → (own ≢ refusal.NoMemory → own ≡ refusal_for fault)
    → (fault ≢ mend_fault.NoMemory → answer ≡ Err fault) → (own ≡ refusal.NoMemory) ⊎ ((answer ≡ Err fault) × (own ≡ refusal_for fault))
mend_fault_told answer fault own told faulty =
    elim (is_memory own) [
      | inl wanting ↦ inl wanting
      | inr real ↦ inr (faulty (λ none. real (subst (λ (known : MendFault). own ≡ refusal_for known) none (told real))), told real)
    ]

-- what is owed for the first of two steps and then for the second is owed for both
pub both_met : {X Y : Type 0} (owed : Owed X) (next : X → Owed Y) (x : X) (y : Y) → Meets owed (Ok x) → Meets (next x) (Ok y) → Meets (and_then owed next) (Ok y)
both_met None next x y first second = tt
both_met (Some known) next x y first second = subst (λ answer. Meets (and_then (Some answer) next) (Ok y)) (sym first) second

-- a refusal for the table comes from elsewhere than the book
pub elsewhere_changes : (own : Refusal) → IsOfChanges own → IsFromElsewhere (input.Book 1) own
elsewhere_changes (refusal.Changes fault) is = λ e. cc e
elsewhere_changes (refusal.Read which) is = λ e. cc (e, is)
elsewhere_changes refusal.NoMemory is = λ e. cc e
elsewhere_changes own is = absurd is

-- a refusal for the book comes from behind the table
pub behind_changes : (own : Refusal) → IsOfChanged own → IsBehind input.Changes own
behind_changes (refusal.Book number fault) is = tt
behind_changes (refusal.Unfit fault) is = tt
behind_changes (refusal.Mended fault) is = tt
behind_changes (refusal.Read which) is = subst (λ at. IsBehind input.Changes (refusal.Read at)) (sym is) tt
behind_changes refusal.NoMemory is = tt
behind_changes own is = absurd is

-- neither is one of an output
unwritten : (X : Type 0) (own : Refusal) → IsOfChanges own ⊎ IsOfChanged own → IsWritten {X = X} (Err own) → ⊥
unwritten X (refusal.Write which) (inl is) begun = is
unwritten X (refusal.Write which) (inr is) begun = is
unwritten X other is begun = begun

-- so one comes before the mended book is begun
pub mending_refused : {A X K : Type 0} (Owes : Refusal → Type 0) (IsGiven HasWritten : A → Type 0) (own : Refusal) (old new : K)
    → IsOfChanges own ⊎ IsOfChanged own → Owes own → new ≡ old → Outcome {X = X} Owes IsGiven HasWritten (Err own) old new
mending_refused {X = X} Owes IsGiven HasWritten own old new of_input owes same =
    outcome_refused {X = X} Owes IsGiven HasWritten own old new (unwritten X own of_input) (unless_of own (Owes own) owes) same
