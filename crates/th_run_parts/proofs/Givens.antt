-- What is owed for a source that was read.
use Rattle.std.proofs.Common.{◌≡◌, ◌≢◌, ◌⊎◌, ℕ, List, Some, None, Err, IfSome, take, ap, sym, subst, refl, ◌∙◌, inl, inr, if◌then◌else◌, arith}
use Rattle.std.proofs.lemmas.Bool.{le-ltb}
use Rattle.std.specs.Prelude.{Option, Result, Bool}
use Rattle.th_book.specs.declared.faults.BookFault.{BookFault}
use Rattle.th_book.specs.declared.faults.BookKind.{BookKind}
use Rattle.th_book.specs.declared.faults.BookKind.TheVariants as book_kind
use Rattle.th_certificate.specs.Faults.{no_memory as no_memory_for_certificate}
use Rattle.th_certificate.specs.declared.faults.CertFault.{CertFault}
use Rattle.th_certificate.specs.declared.faults.CertKind.{CertKind}
use Rattle.th_certificate.specs.declared.faults.CertKind.TheVariants as cert_kind
use Rattle.th_tables.specs.Tables.{no_memory}
use Rattle.th_tables.specs.declared.faults.TableFault.{TableFault}
use Rattle.th_tables.specs.declared.faults.TableKind.{TableKind}
use Rattle.th_tables.specs.declared.faults.TableKind.TheVariants as table_kind
use Rattle.th_run_parts.specs.Inputs.{Failed, Meets, MeetsRefusal, given_at, of_told, or_refused, owed_for}
use Rattle.th_inputs.specs.declared.inputs.Input.{Input}
use Rattle.th_run_parts.specs.declared.refusals.Refusal.{Refusal}
use Rattle.th_run_parts.specs.declared.refusals.Refusal.TheVariants as refusal

-- the answer to the text is owed for a source of which no read failed
pub meets_told : {X : Type 0} (which : Input) (answer : List ℕ → Result X Refusal) (before after : ℕ) (told : Option (List ℕ)) (known : Result X Refusal)
    → after ≡ before → IfSome told (λ text. answer text ≡ known) → Meets (owed_for which answer (given_at before after told)) known
meets_told which answer before after told known same gives =
    subst (λ (failed : Bool). Meets (owed_for which answer (if failed then Failed else of_told told)) known) (sym (le-ltb before after (omega arith)))
    (at_told told gives)
  where
    at_told : (known_text : Option (List ℕ)) → IfSome known_text (λ text. answer text ≡ known) → Meets (owed_for which answer (of_told known_text)) known
    at_told None gives = tt
    at_told (Some text) gives = gives

-- what the front that was read answers, the text does
front_told : {X F : Type 0} (refuse : F → Refusal) (answer : List ℕ → Result X F) (most : ℕ) (told : Option (List ℕ)) (bytes : List ℕ) (known : Result X F)
    → ((text : List ℕ) → answer (take most text) ≡ answer text) → IfSome told (λ text. bytes ≡ take most text) → answer bytes ≡ known
    → IfSome told (λ text. or_refused refuse (answer text) ≡ or_refused refuse known)
front_told refuse answer most None bytes known fronts front gives = tt
front_told refuse answer most (Some text) bytes known fronts front gives =
    ap (or_refused refuse) (sym (fronts text) ∙ ap answer (sym front) ∙ gives)

-- the answer to the front that was read is owed
pub meets_front : {X F : Type 0} (which : Input) (refuse : F → Refusal) (answer : List ℕ → Result X F) (most before after : ℕ) (told : Option (List ℕ))
    (bytes : List ℕ) (known : Result X F) → after ≡ before → ((text : List ℕ) → answer (take most text) ≡ answer text)
    → IfSome told (λ text. bytes ≡ take most text) → answer bytes ≡ known
    → Meets (owed_for which (λ text. or_refused refuse (answer text)) (given_at before after told)) (or_refused refuse known)
meets_front which refuse answer most before after told bytes known same fronts front gives =
    meets_told which _ before after told _ same (front_told refuse answer most told bytes known fronts front gives)

-- so is the refusal for a fault of that front, unless it is out of memory
pub meets_fault : {X F : Type 0} (which : Input) (refuse : F → Refusal) (answer : List ℕ → Result X F) (most before after : ℕ) (told : Option (List ℕ))
    (bytes : List ℕ) (fault : F) (own : Refusal) → after ≡ before → ((text : List ℕ) → answer (take most text) ≡ answer text)
    → IfSome told (λ text. bytes ≡ take most text) → (own ≡ refusal.NoMemory) ⊎ ((answer bytes ≡ Err fault) × (own ≡ refuse fault))
    → MeetsRefusal (owed_for which (λ text. or_refused refuse (answer text)) (given_at before after told)) own
meets_fault which refuse answer most before after told bytes fault own same fronts front (inl wanting) = λ real. absurd (real wanting)
meets_fault which refuse answer most before after told bytes fault own same fronts front (inr faulty) =
    subst (MeetsRefusal (owed_for which (λ text. or_refused refuse (answer text)) (given_at before after told))) (sym faulty.1)
    (λ real. meets_front which refuse answer most before after told bytes (Err fault) same fronts front faulty.0)

-- a fault of a book is out of memory, or the one that it has
pub book_fault : {X : Type 0} (refuse : BookFault → Refusal) (answer : Result X BookFault) (fault : BookFault) (own : Refusal)
    → (fault.kind ≡ book_kind.NoMemory → own ≡ refusal.NoMemory) → (fault.kind ≢ book_kind.NoMemory → own ≡ refuse fault)
    → (fault.kind ≢ book_kind.NoMemory → answer ≡ Err fault) → (own ≡ refusal.NoMemory) ⊎ ((answer ≡ Err fault) × (own ≡ refuse fault))
book_fault refuse answer fault own memory other faulty =
    elim (is_memory fault.kind) [ inl wanting ↦ inl (memory wanting) | inr real ↦ inr (faulty real, other real) ]
  where
    is_memory : (kind : BookKind) → (kind ≡ book_kind.NoMemory) ⊎ (kind ≢ book_kind.NoMemory)
    is_memory book_kind.NoMemory = inl refl
    is_memory kind = inr (λ e. cc)

-- a fault of a table is out of memory, or the one that it has
pub table_fault : {X : Type 0} (refuse : TableFault → Refusal) (answer : Result X TableFault) (fault : TableFault) (own : Refusal)
    → (fault.kind ≡ table_kind.NoMemory → own ≡ refusal.NoMemory) → (fault.kind ≢ table_kind.NoMemory → own ≡ refuse fault)
    → (fault ≡ no_memory) ⊎ (answer ≡ Err fault) → (own ≡ refusal.NoMemory) ⊎ ((answer ≡ Err fault) × (own ≡ refuse fault))
table_fault refuse answer fault own memory other (inl wanting) = inl (memory (ap (λ (it : TableFault). it.kind) wanting))
table_fault refuse answer fault own memory other (inr faulty) =
    elim (is_memory fault.kind) [ inl wanting ↦ inl (memory wanting) | inr real ↦ inr (faulty, other real) ]
  where
    is_memory : (kind : TableKind) → (kind ≡ table_kind.NoMemory) ⊎ (kind ≢ table_kind.NoMemory)
    is_memory table_kind.NoMemory = inl refl
    is_memory kind = inr (λ e. cc)

-- and so is a fault of a certificate
pub certificate_fault : {X : Type 0} (refuse : CertFault → Refusal) (answer : Result X CertFault) (fault : CertFault) (own : Refusal)
    → (fault.kind ≡ cert_kind.NoMemory → own ≡ refusal.NoMemory) → (fault.kind ≢ cert_kind.NoMemory → own ≡ refuse fault)
    → (fault ≡ no_memory_for_certificate) ⊎ (answer ≡ Err fault) → (own ≡ refusal.NoMemory) ⊎ ((answer ≡ Err fault) × (own ≡ refuse fault))
certificate_fault refuse answer fault own memory other (inl wanting) = inl (memory (ap (λ (it : CertFault). it.kind) wanting))
certificate_fault refuse answer fault own memory other (inr faulty) =
    elim (is_memory fault.kind) [ inl wanting ↦ inl (memory wanting) | inr real ↦ inr (faulty, other real) ]
  where
    is_memory : (kind : CertKind) → (kind ≡ cert_kind.NoMemory) ⊎ (kind ≢ cert_kind.NoMemory)
    is_memory cert_kind.NoMemory = inl refl
    is_memory kind = inr (λ e. cc)
