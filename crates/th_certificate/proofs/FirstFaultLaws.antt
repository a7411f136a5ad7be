-- Records are read up to the first that has a fault.
use Rattle.std.proofs.Common.{◌≡◌, ◌⊎◌, inl, inr, ◌<◌, ◌≤◌, ◌+◌, ◌==◌, ◌&&◌, ℕ, Bool, true, false, if◌then◌else◌, List, [], ◌∷◌, ◌++◌, length, slice_get, Option, Some, None, is_none, Result, Ok, Err, codes, nat_lt, suc, zero, refl, sym, ap, subst, ◌∙◌, append_assoc, length-append, arith}
use Rattle.std.specs.Result.{result_err}
use Rattle.std.proofs.Math.Seq.{take-append_seam}
use Rattle.std.proofs.lemmas.Bool.Decides.{nat_tests}
use Rattle.std.proofs.lemmas.List.{append-nil, take_all}
use Rattle.std.proofs.lemmas.Option.{slice_get_past}
use Rattle.th_csv.specs.Records.{Fields, records_of}
use Rattle.th_tables.proofs.FaultLaws.{slice_get_after}
use Rattle.th_certificate.specs.Certified.{Certified}
use Rattle.th_certificate.specs.Faults.{too_long}
use Rattle.th_certificate.specs.FirstFaults.{IsFault, IsFaultless, IsFirstFault, count_of, kind_at, kind_under}
use Rattle.th_certificate.specs.Limits.{max_certificate}
use Rattle.th_certificate.specs.Reading.{after, certificate_after, certificate_in, certificate_of, certificate_under, ended, is_header}
use Rattle.th_certificate.specs.Statements.{Draft, begun, statement_of, with_statement}
use Rattle.th_certificate.specs.declared.faults.CertFault.{CertFault}
use Rattle.th_certificate.specs.declared.faults.CertKind.{CertKind}
use Rattle.th_certificate.specs.declared.faults.CertKind.TheVariants.{BadHeader, Truncated}
use Rattle.th_certificate.specs.declared.statements.Statement.{Statement}
use Rattle.th_certificate.proofs.FaultKinds.{Tells, begun_kind, statement_kind, tells_begun, tells_more}

-- the fault of the record after those that are done
kind_at_next : (done : List Fields) (this : Fields) (later : List Fields) → kind_at (done ++ this ∷ later) (length done + 0) ≡ kind_under done (Some this)
kind_at_next done this later =
    let here : length done + 0 ≡ length done = omega arith in
    ap (kind_at (done ++ this ∷ later)) here
    ∙ ap (λ above. kind_under above (slice_get (done ++ this ∷ later) (length done))) (take-append_seam done (this ∷ later))
    ∙ ap (kind_under done) (slice_get_after done this later)

-- the faults of the later ones, once it is done too
kind_at_later : (done : List Fields) (this : Fields) (later : List Fields) (place : ℕ) → kind_at (done ++ this ∷ later) (length done + suc place) ≡ kind_at ((done ++ this ∷ []) ++ later) (length (done ++ this ∷ []) + place)
kind_at_later done this later place =
    let further : length done + suc place ≡ length (done ++ this ∷ []) + place = omega (arith, length-append done (this ∷ [])) in
    ap (kind_at (done ++ this ∷ later)) further
    ∙ ap (λ records. kind_at records (length (done ++ this ∷ []) + place)) (sym (append_assoc done (this ∷ []) later))

-- past the last record one is missing, or none
kind_at_past : (done : List Fields) (place : ℕ) → kind_at (done ++ []) (length done + place) ≡ kind_under done None
kind_at_past done place =
    let past : length done ≤ length done + place = omega arith in
    ap (λ records. kind_at records (length done + place)) (append-nil done)
    ∙ ap (λ above. kind_under above (slice_get done (length done + place))) (take_all (length done + place) done past)
    ∙ ap (kind_under done) (slice_get_past done (length done + place) past)

-- the first fault of the records after those that are done
record FaultFrom (done left : List Fields) (fault : CertFault) : Type 0 where
  place : ℕ
  number : fault.row ≡ length done + place + 1
  kind : kind_at (done ++ left) (length done + place) ≡ Some fault.kind
  earlier : (before : ℕ) → before < place → kind_at (done ++ left) (length done + before) ≡ None

-- they are read where none of them has a fault, and else refused with the first
abbrev Outcome : List Fields → List Fields → Result Certified CertFault → Type 0
Outcome done left (Ok it) = (place : ℕ) → kind_at (done ++ left) (length done + place) ≡ None
Outcome done left (Err fault) = FaultFrom done left fault

-- a record without a fault, and the later ones
outcome_later : (done : List Fields) (this : Fields) (later : List Fields) (read : Result Certified CertFault) → kind_under done (Some this) ≡ None → Outcome (done ++ this ∷ []) later read → Outcome done (this ∷ later) read
outcome_later done this later (Ok it) none more = each
  where
    each : (place : ℕ) → kind_at (done ++ this ∷ later) (length done + place) ≡ None
    each zero = kind_at_next done this later ∙ none
    each (suc place) = kind_at_later done this later place ∙ more place
outcome_later done this later (Err fault) none more = record {
  place = suc more.place;
  number = omega (arith, more.number, length-append done (this ∷ []));
  kind = kind_at_later done this later more.place ∙ more.kind;
  earlier = before_it;
}
  where
    before_it : (before : ℕ) → before < suc more.place → kind_at (done ++ this ∷ later) (length done + before) ≡ None
    before_it zero b = kind_at_next done this later ∙ none
    before_it (suc before) b = kind_at_later done this later before ∙ more.earlier before (omega arith)

-- a record with a fault
outcome_here : (done : List Fields) (this : Fields) (later : List Fields) (number : ℕ) (kind : CertKind) → number ≡ length done + 1 → kind_under done (Some this) ≡ Some kind → FaultFrom done (this ∷ later) (record { row = number; kind = kind })
outcome_here done this later number kind row is = record {
  place = 0;
  number = omega (arith, row);
  kind = kind_at_next done this later ∙ is;
  earlier = λ before b. absurd (omega arith);
}

-- one that is missing
outcome_end : (done : List Fields) (number : ℕ) (kind : CertKind) → number ≡ length done + 1 → kind_under done None ≡ Some kind → FaultFrom done [] (record { row = number; kind = kind })
outcome_end done number kind row is = record {
  place = 0;
  number = omega (arith, row);
  kind = kind_at_past done 0 ∙ is;
  earlier = λ before b. absurd (omega arith);
}

module _ (header version_row : Fields) where
  -- the end of the records
  ended_outcome : (above : List Fields) (number : ℕ) (draft : Draft) (cost : Option ℕ) → number ≡ length (header ∷ version_row ∷ above) + 1 → is_none cost ≡ (count_of (codes "Z") above == 0)
      → Outcome (header ∷ version_row ∷ above) [] (ended number draft cost)
  ended_outcome above number draft None row is =
      outcome_end (header ∷ version_row ∷ above) number Truncated row (ap (λ (test : Bool). if test && true then Some Truncated else None) (sym is))
  ended_outcome above number draft (Some cost) row is = λ place.
      (kind_at_past (header ∷ version_row ∷ above) place ∙ ap (λ (test : Bool). if test && true then Some Truncated else None) (sym is))

  -- the records under the version row
  rows_outcome : (above left : List Fields) (number : ℕ) (draft : Draft) → Tells version_row above draft → number ≡ length (header ∷ version_row ∷ above) + 1
      → Outcome (header ∷ version_row ∷ above) left (certificate_after left number draft)
  rows_outcome above [] number draft tells row = ended_outcome above number draft draft.cost row tells.cost
  rows_outcome above (this ∷ left) number draft tells row = by (statement_of draft this) refl (λ (next : Draft). rows_outcome (above ++ this ∷ []) left (number + 1) next)
    where
      by : (says : Result Statement CertKind) → statement_of draft this ≡ says
          → ((next : Draft) → Tells version_row (above ++ this ∷ []) next → number + 1 ≡ length (header ∷ version_row ∷ (above ++ this ∷ [])) + 1
          → Outcome (header ∷ version_row ∷ (above ++ this ∷ [])) left (certificate_after left (number + 1) next))
          → Outcome (header ∷ version_row ∷ above) (this ∷ left) (after number (λ statement. certificate_after left (number + 1) (with_statement draft statement)) says)
      by (Err kind) is more = outcome_here (header ∷ version_row ∷ above) this left number kind row (sym (statement_kind version_row above draft tells this) ∙ ap result_err is)
      by (Ok statement) is more =
          outcome_later (header ∷ version_row ∷ above) this left (certificate_after left (number + 1) (with_statement draft statement))
          (sym (statement_kind version_row above draft tells this) ∙ ap result_err is)
          (more (with_statement draft statement) (tells_more version_row above draft this tells statement is) (omega (arith, row, length-append above (this ∷ []))))

  -- the version row and those under it
  version_outcome : (left : List Fields) → Outcome (header ∷ []) (version_row ∷ left) (certificate_under (version_row ∷ left))
  version_outcome left = by (begun version_row) refl
    where
      by : (says : Result Draft CertKind) → begun version_row ≡ says → Outcome (header ∷ []) (version_row ∷ left) (after 2 (certificate_after left 3) says)
      by (Err kind) is = outcome_here (header ∷ []) version_row left 2 kind refl (sym (begun_kind version_row) ∙ ap result_err is)
      by (Ok draft) is =
          outcome_later (header ∷ []) version_row left (certificate_after left 3 draft) (sym (begun_kind version_row) ∙ ap result_err is) (rows_outcome [] left 3 draft (tells_begun version_row draft is) refl)

-- the records under the header
under_outcome : (header : Fields) (left : List Fields) → Outcome (header ∷ []) left (certificate_under left)
under_outcome header [] = outcome_end (header ∷ []) 2 Truncated refl refl
under_outcome header (version_row ∷ left) = version_outcome header version_row left

-- all records
outcome : (records : List Fields) → Outcome [] records (certificate_in records)
outcome [] = outcome_end [] 1 BadHeader refl refl
outcome (first ∷ left) = by (is_header first) refl
  where
    by : (header : Bool) → is_header first ≡ header → Outcome [] (first ∷ left) (if header then certificate_under left else Err (record { row = 1; kind = BadHeader }))
    by true is = outcome_later [] first left (certificate_under left) (ap (λ (header : Bool). if header then None else Some BadHeader) is) (under_outcome first left)
    by false is = outcome_here [] first left 1 BadHeader refl (ap (λ (header : Bool). if header then None else Some BadHeader) is)

-- a fault is its record's number and its kind
same_fault : (fault other : CertFault) → fault.row ≡ other.row → fault.kind ≡ other.kind → fault ≡ other
same_fault fault other rows kinds = λ i. record { row = rows i; kind = kinds i }

same_kind : (kind other : CertKind) → Some kind ≡ Some other → kind ≡ other
same_kind kind other some = cc some

-- a record has one fault, so the first is one
one_fault : (records : List Fields) (fault other : CertFault) → IsFirstFault records fault → IsFirstFault records other → fault ≡ other
one_fault records fault other is is' = by (inl_or_inr is.place is'.place)
  where
    inl_or_inr : (m n : ℕ) → (m < n) ⊎ ((n < m) ⊎ (m ≡ n))
    inl_or_inr zero zero = inr (inr refl)
    inl_or_inr zero (suc n) = inl (omega arith)
    inl_or_inr (suc m) zero = inr (inl (omega arith))
    inl_or_inr (suc m) (suc n) = further (inl_or_inr m n)
      where
        further : (m < n) ⊎ ((n < m) ⊎ (m ≡ n)) → (suc m < suc n) ⊎ ((suc n < suc m) ⊎ (suc m ≡ suc n))
        further (inl less) = inl (omega arith)
        further (inr (inl more)) = inr (inl (omega arith))
        further (inr (inr same)) = inr (inr (omega arith))

    clash : {P : Type 0} (kind : CertKind) (found : Option CertKind) → found ≡ Some kind → found ≡ None → P
    clash kind found some none = absurd (cc (some, none))

    by : (is.place < is'.place) ⊎ ((is'.place < is.place) ⊎ (is.place ≡ is'.place)) → fault ≡ other
    by (inl less) = clash fault.kind (kind_at records is.place) is.kind (is'.earlier is.place less)
    by (inr (inl more)) = clash other.kind (kind_at records is'.place) is'.kind (is.earlier is'.place more)
    by (inr (inr same)) =
        let some : Some fault.kind ≡ Some other.kind = sym is.kind ∙ ap (kind_at records) same ∙ is'.kind in
        let rows : fault.row ≡ other.row = omega (arith, is.number, is'.number, same) in
        same_fault fault other rows (same_kind fault.kind other.kind some)

-- from the beginning
from_start : (records : List Fields) (fault : CertFault) → FaultFrom [] records fault → IsFirstFault records fault
from_start records fault from =
    let here : 0 + from.place ≡ from.place = omega arith in
    record {
      place = from.place;
      number = omega (arith, from.number);
      kind = ap (kind_at records) (sym here) ∙ from.kind;
      earlier = λ before b. (let there : before ≡ 0 + before = omega arith in ap (kind_at records) there ∙ from.earlier before b);
    }

-- what is read of records
abbrev IsOutcome : List Fields → Result Certified CertFault → Type 0
IsOutcome records (Ok it) = (place : ℕ) → kind_at records place ≡ None
IsOutcome records (Err fault) = IsFirstFault records fault

is_outcome : (records : List Fields) (read : Result Certified CertFault) → Outcome [] records read → IsOutcome records read
is_outcome records (Ok it) from = λ place. (let here : place ≡ 0 + place = omega arith in ap (kind_at records) here ∙ from place)
is_outcome records (Err fault) from = from_start records fault from

-- the fault of records
pub in_to : (records : List Fields) (fault : CertFault) → certificate_in records ≡ Err fault → IsFirstFault records fault
in_to records fault h = subst (IsOutcome records) h (is_outcome records (certificate_in records) (outcome records))

pub in_from : (records : List Fields) (fault : CertFault) → IsFirstFault records fault → certificate_in records ≡ Err fault
in_from records fault first = by (certificate_in records) (is_outcome records (certificate_in records) (outcome records))
  where
    by : (read : Result Certified CertFault) → IsOutcome records read → read ≡ Err fault
    by (Ok it) none = absurd (cc (none first.place, first.kind))
    by (Err other) is = ap Err (one_fault records other fault is first)

-- the fault of bytes
pub fault_to : (bytes : List ℕ) (fault : CertFault) → certificate_of bytes ≡ Err fault → IsFault bytes fault
fault_to bytes fault h = by (nat_lt max_certificate (length bytes)) refl h
  where
    by : (long : Bool) → nat_lt max_certificate (length bytes) ≡ long → (if long then Err too_long else certificate_in (records_of bytes)) ≡ Err fault → IsFault bytes fault
    by true is h =
        let same : too_long ≡ fault = cc h in
        inl (grind (arith, nat_tests), sym same)
    by false is h = inr (grind (arith, nat_tests), in_to (records_of bytes) fault h)

pub fault_from : (bytes : List ℕ) (fault : CertFault) → IsFault bytes fault → certificate_of bytes ≡ Err fault
fault_from bytes fault (inl long) =
    let test : nat_lt max_certificate (length bytes) ≡ true = grind (arith, nat_tests, long.0) in
    ap (λ (long : Bool). if long then Err too_long else certificate_in (records_of bytes)) test ∙ ap Err (sym long.1)
fault_from bytes fault (inr short) =
    let test : nat_lt max_certificate (length bytes) ≡ false = grind (arith, nat_tests, short.0) in
    ap (λ (long : Bool). if long then Err too_long else certificate_in (records_of bytes)) test ∙ in_from (records_of bytes) fault short.1

-- bytes that are read
pub read_to : (bytes : List ℕ) (it : Certified) → certificate_of bytes ≡ Ok it → IsFaultless bytes
read_to bytes it h = by (nat_lt max_certificate (length bytes)) refl h
  where
    by : (long : Bool) → nat_lt max_certificate (length bytes) ≡ long → (if long then Err too_long else certificate_in (records_of bytes)) ≡ Ok it → IsFaultless bytes
    by true is h = cc h
    by false is h = (grind (arith, nat_tests), subst (IsOutcome (records_of bytes)) h (is_outcome (records_of bytes) (certificate_in (records_of bytes)) (outcome (records_of bytes))))

pub read_from : (bytes : List ℕ) → IsFaultless bytes → (it : Certified) × (certificate_of bytes ≡ Ok it)
read_from bytes none = by (certificate_of bytes) refl
  where
    by : (read : Result Certified CertFault) → certificate_of bytes ≡ read → (it : Certified) × (certificate_of bytes ≡ Ok it)
    by (Ok it) is = (it, is)
    by (Err fault) is = refused (fault_to bytes fault is)
      where
        refused : IsFault bytes fault → (it : Certified) × (certificate_of bytes ≡ Ok it)
        refused (inl long) = absurd (omega (arith, long.0, none.0))
        refused (inr short) = absurd (cc (none.1 short.1.place, short.1.kind))
