-- What a book holds after the sight of an entry.
use Rattle.std.proofs.Common.{◌≡◌, ◌≢◌, ◌≤◌, ℕ, ℤ, ◌+◌, ◌&&◌, cond, List, length, Option, Some, None, Result, Ok, Err, sym, ap, ◌∙◌}
use Rattle.std.specs.Prelude.{is_some}
use Rattle.std.specs.Result.{IfErr, OnErr, OnOk}
use Rattle.th_observations.specs.Observed.{Observed}
use Rattle.th_book.specs.Books.{known, known_name}
use Rattle.th_book.specs.Due.{BookState}
use Rattle.th_book.specs.Faults.{fault_in}
use Rattle.th_book.specs.Inside.Effects.{IsKept, IsObserved, IsSeen, IsWantingFor, entry_fault, is_seen, observation_by, observed_from, sight_fault, stamped, state_observing, state_refusing}
use Rattle.th_book.specs.declared.entries.Entered.{Entered}
use Rattle.th_book.specs.declared.setups.Setup.{Setup}
use Rattle.th_book.specs.declared.setups.Sight.{Sight}
use Rattle.th_book.specs.declared.faults.BookFault.{BookFault}
use Rattle.th_book.specs.declared.faults.BookKind.{BookKind}
use Rattle.th_book.specs.declared.faults.BookKind.TheVariants.{NoMemory}

-- an entry with a target and a height difference
pub record HasSight (entry : Entered) (target : List ℕ) (sighted : ℤ) : Type 0 where
  pub named : entry.target ≡ Some target
  pub read : entry.sighted ≡ Some sighted

-- what depends on both of them is that of the sight
of_both : {X : Type 0} (entry : Entered) (target : List ℕ) (sighted : ℤ) (some : List ℕ → ℤ → X) (none : X) → HasSight entry target sighted → cond (is_seen entry) (some (known_name entry.target) (known entry.sighted)) none ≡ some target sighted
of_both entry target sighted some none has =
    ap (λ (name : Option (List ℕ)). cond (is_some name && is_some entry.sighted) (some (known_name name) (known entry.sighted)) none) has.named
    ∙ ap (λ (length : Option ℤ). cond (is_some length) (some target (known length)) none) has.read

-- its fault is that of the sight
fault_of_sight : (setup : Option Setup) (entry : Entered) (target : List ℕ) (sighted : ℤ) → HasSight entry target sighted → entry_fault setup entry ≡ sight_fault setup target
fault_of_sight setup entry target sighted has = of_both entry target sighted (λ name length. sight_fault setup name) None has

-- the observation is added where there is room
pub observed_ok : {A : Type 0} (given : Result A BookFault) (setup : Option Setup) (old new : BookState) (entry : Entered) (target : List ℕ) (sighted : ℤ) (sight : Sight) → HasSight entry target sighted → None ≡ sight_fault setup target → IsSeen setup target sighted sight → OnOk given (new ≡ state_observing old (Some (stamped old.book (old.lines + 1) sight)) new.room) → OnOk given (old.room ≤ new.room) → OnOk given (IsObserved setup old new entry)
observed_ok (Ok value) setup old new entry target sighted sight has fine is added more = record {
  fine = fault_of_sight setup entry target sighted has ∙ sym fine;
  state = added ∙ ap (λ (own : Option Observed). state_observing old own new.room) same;
  room = more;
}
  where
    same : Some (stamped old.book (old.lines + 1) sight) ≡ observation_by setup entry old.book (old.lines + 1)
    same =
        ap (λ (own : Observed). Some own) (is.seen old.book (old.lines + 1))
        ∙ sym (of_both entry target sighted (λ name length. Some (observed_from setup name length old.book (old.lines + 1))) None has)
observed_ok (Err fault) setup old new entry target sighted sight has fine is added more = tt

-- where there is none, no fault is kept
pub unkept_err : {A : Type 0} (given : Result A BookFault) (setup : Option Setup) (old new : BookState) (entry : Entered) → IfErr given (λ fault. (new ≡ old) × (fault ≡ fault_in old.lines NoMemory)) → IfErr given (λ fault. fault.kind ≢ NoMemory → IsKept setup old new entry fault)
unkept_err (Ok value) setup old new entry wanting = tt
unkept_err (Err fault) setup old new entry wanting = λ other. absurd (other (ap (λ (own : BookFault). own.kind) wanting.1))

-- and memory is wanting for the observation
pub wanting_err : {A : Type 0} (given : Result A BookFault) (setup : Option Setup) (old new : BookState) (entry : Entered) (target : List ℕ) (sighted : ℤ) → HasSight entry target sighted → None ≡ sight_fault setup target → IfErr given (λ fault. (new ≡ old) × (fault ≡ fault_in old.lines NoMemory)) → OnErr given (old.room ≤ length old.observations) → IfErr given (λ fault. fault.kind ≡ NoMemory → IsWantingFor setup old new entry fault)
wanting_err (Ok value) setup old new entry target sighted has fine wanting full = tt
wanting_err (Err fault) setup old new entry target sighted has fine wanting full = λ none. record {
  fine = fault_of_sight setup entry target sighted has ∙ sym fine;
  state = wanting.0;
  given = wanting.1;
  seen = ap (λ (name : Option (List ℕ)). is_some name && is_some entry.sighted) has.named ∙ ap (λ (length : Option ℤ). is_some length) has.read;
  full = full;
}

-- a fault of the sight is kept
pub kept_fault : (setup : Option Setup) (old new : BookState) (entry : Entered) (target : List ℕ) (sighted : ℤ) (kind : BookKind) (fault : BookFault) → HasSight entry target sighted → Some kind ≡ sight_fault setup target → fault ≡ fault_in old.lines kind → new ≡ state_refusing old kind → IsKept setup old new entry fault
kept_fault setup old new entry target sighted kind fault has found given kept =
    let same : kind ≡ fault.kind = ap (λ (own : BookFault). own.kind) (sym given) in
    record {
      found = fault_of_sight setup entry target sighted has ∙ sym found ∙ ap (λ own. Some own) same;
      state = kept ∙ ap (state_refusing old) same;
      given = given ∙ ap (fault_in old.lines) same;
    }
