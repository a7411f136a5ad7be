-- The rows of records, and the first fault, by the places of the records.
use Rattle.std.proofs.Common.{◌≡◌, ◌<◌, ◌≤◌, ◌+◌, ℕ, Bool, true, false, if◌then◌else◌, List, [], ◌∷◌, ◌++◌, length, map, slice_get, take, Some, None, Result, Ok, Err, suc, zero, refl, sym, ap, ◌∙◌, append_assoc, arith, length-append}
use Rattle.std.specs.List.{list_any}
use Rattle.std.specs.Result.{result_err}
use Rattle.std.proofs.Math.Seq.{get_or-append_seam, take-append_seam}
use Rattle.std.proofs.lemmas.List.{append-nil}
use Rattle.std.proofs.lemmas.Option.{slice_get-get_or, slice_get_past}
use Rattle.th_csv.specs.Records.{Fields}
use Rattle.th_tables.specs.Tables.{AreRowsOf, IsFirstFault, is_row_with, kind_at, kind_under, row_first, rows_after, unless_repeated}
use Rattle.th_tables.specs.declared.faults.TableFault.{TableFault}
use Rattle.th_tables.specs.declared.faults.TableKind.{TableKind}
use Rattle.th_tables.specs.declared.faults.TableKind.TheVariants.{Repeated}

-- the record after those that are done
pub slice_get_after : (done : List Fields) (this : Fields) (later : List Fields) → slice_get (done ++ this ∷ later) (length done) ≡ Some this
slice_get_after done this later =
    slice_get-get_or (done ++ this ∷ later) (length done) this (omega (arith, length-append done (this ∷ later))) ∙ ap Some (get_or-append_seam done this later this)

module _ {K V : Type 0} (same : K → K → Bool) (row_in : Fields → Result (K × V) TableKind) where
  -- its fault
  kind_at_next : (done : List Fields) (this : Fields) (later : List Fields) → kind_at same row_in (done ++ this ∷ later) (length done + 0) ≡ result_err (unless_repeated same row_in done (row_in this))
  kind_at_next done this later =
      let here : length done + 0 ≡ length done = omega arith in
      ap (kind_at same row_in (done ++ this ∷ later)) here
      ∙ ap (λ earlier. kind_under same row_in earlier (slice_get (done ++ this ∷ later) (length done))) (take-append_seam done (this ∷ later))
      ∙ ap (kind_under same row_in done) (slice_get_after done this later)

  -- the faults of the later ones, once it is done too
  kind_at_later : (done : List Fields) (this : Fields) (later : List Fields) (place : ℕ)
      → kind_at same row_in (done ++ this ∷ later) (length done + suc place) ≡ kind_at same row_in ((done ++ this ∷ []) ++ later) (length (done ++ this ∷ []) + place)
  kind_at_later done this later place =
      let further : length done + suc place ≡ length (done ++ this ∷ []) + place = omega (arith, length-append done (this ∷ [])) in
      ap (kind_at same row_in (done ++ this ∷ later)) further
      ∙ ap (λ records. kind_at same row_in records (length (done ++ this ∷ []) + place)) (sym (append_assoc done (this ∷ []) later))

  -- past the last record there is no fault
  kind_at_past : (records : List Fields) (place : ℕ) → length records ≤ place → kind_at same row_in records place ≡ None
  kind_at_past records place past = ap (kind_under same row_in (take place records)) (slice_get_past records place past)

  -- the first fault of the records after those that are done
  record FaultFrom (done left : List Fields) (fault : TableFault) : Type 0 where
    place : ℕ
    number : fault.row ≡ length done + place + 2
    kind : kind_at same row_in (done ++ left) (length done + place) ≡ Some fault.kind
    earlier : (before : ℕ) → before < place → kind_at same row_in (done ++ left) (length done + before) ≡ None

  fault_from : (done left : List Fields) (fault : TableFault) → rows_after same row_in done left ≡ Err fault → FaultFrom done left fault
  fault_from done [] fault h = cc h
  fault_from done (this ∷ later) fault h =
      by (unless_repeated same row_in done (row_in this)) (rows_after same row_in (done ++ this ∷ []) later) refl h (fault_from (done ++ this ∷ []) later fault)
    where
      by : (first : Result (K × V) TableKind) (rest : Result (List (K × V)) TableFault) → unless_repeated same row_in done (row_in this) ≡ first
          → row_first (length done) first rest ≡ Err fault → (rest ≡ Err fault → FaultFrom (done ++ this ∷ []) later fault) → FaultFrom done (this ∷ later) fault
      by (Err kind) rest is h more =
          let it : TableFault = record { row = length done + 2; kind = kind } in
          let told : it ≡ fault = cc in
          record {
            place = 0;
            number = omega (arith, ap (λ (f : TableFault). f.row) told);
            kind = kind_at_next done this later ∙ ap result_err is ∙ ap (λ (f : TableFault). Some f.kind) told;
            earlier = λ before none. absurd (omega arith);
          }
      by (Ok row) (Err other) is h more =
          let later_fault : FaultFrom (done ++ this ∷ []) later fault = more h in
          record {
            place = suc later_fault.place;
            number = omega (arith, later_fault.number, length-append done (this ∷ []));
            kind = kind_at_later done this later later_fault.place ∙ later_fault.kind;
            earlier = before_it later_fault (kind_at_next done this later ∙ ap result_err is);
          }
        where
          before_it : (it : FaultFrom (done ++ this ∷ []) later fault) → kind_at same row_in (done ++ this ∷ later) (length done + 0) ≡ None
              → (before : ℕ) → before < suc it.place → kind_at same row_in (done ++ this ∷ later) (length done + before) ≡ None
          before_it it first zero b = first
          before_it it first (suc before) b = kind_at_later done this later before ∙ it.earlier before (omega arith)
      by (Ok row) (Ok rows) is h more = cc h

  -- the rows of the records after those that are done
  record RowsFrom (done left : List Fields) (rows : List (K × V)) : Type 0 where
    faultless : (place : ℕ) → kind_at same row_in (done ++ left) (length done + place) ≡ None
    said : map row_in left ≡ map Ok rows

  -- a row that no earlier record has is what its record says
  own_row : (done : List Fields) (row : K × V) (read : Result (K × V) TableKind) → unless_repeated same row_in done read ≡ Ok row → read ≡ Ok row
  own_row done row (Err kind) h = cc h
  own_row done row (Ok other) h = by (list_any (λ earlier. is_row_with same other.0 (row_in earlier)) done) h
    where
      by : (repeated : Bool) → (if repeated then Err Repeated else Ok other) ≡ Ok row → ◌≡◌ {A = Result (K × V) TableKind} (Ok other) (Ok row)
      by true h = cc h
      by false h = h

  rows_from : (done left : List Fields) (rows : List (K × V)) → rows_after same row_in done left ≡ Ok rows → RowsFrom done left rows
  rows_from done [] rows h =
      let none : [] ≡ rows = cc in
      record {
        faultless = λ place. kind_at_past (done ++ []) (length done + place) (omega (arith, ap length (append-nil done)));
        said = ap (map Ok) none;
      }
  rows_from done (this ∷ later) rows h =
      by (unless_repeated same row_in done (row_in this)) (rows_after same row_in (done ++ this ∷ []) later) refl h (rows_from (done ++ this ∷ []) later)
    where
      by : (first : Result (K × V) TableKind) (rest : Result (List (K × V)) TableFault) → unless_repeated same row_in done (row_in this) ≡ first
          → row_first (length done) first rest ≡ Ok rows → ((others : List (K × V)) → rest ≡ Ok others → RowsFrom (done ++ this ∷ []) later others) → RowsFrom done (this ∷ later) rows
      by (Err kind) rest is h more = cc h
      by (Ok row) (Err fault) is h more = cc h
      by (Ok row) (Ok others) is h more =
          let all : row ∷ others ≡ rows = cc in
          let after : RowsFrom (done ++ this ∷ []) later others = more others refl in
          record {
            faultless = each after (kind_at_next done this later ∙ ap result_err is);
            said = ap (λ first. first ∷ map row_in later) (own_row done row (row_in this) is) ∙ ap (λ others. Ok row ∷ others) after.said ∙ ap (map Ok) all;
          }
        where
          each : RowsFrom (done ++ this ∷ []) later others → kind_at same row_in (done ++ this ∷ later) (length done + 0) ≡ None
              → (place : ℕ) → kind_at same row_in (done ++ this ∷ later) (length done + place) ≡ None
          each after first zero = first
          each after first (suc place) = kind_at_later done this later place ∙ after.faultless place

  pub AreRowsOf-rows_after : (records : List Fields) (rows : List (K × V)) → rows_after same row_in [] records ≡ Ok rows → AreRowsOf same row_in records rows
  AreRowsOf-rows_after records rows h =
      let from : RowsFrom [] records rows = rows_from [] records rows h in
      record {
        faultless = λ place. (let here : place ≡ 0 + place = omega arith in ap (kind_at same row_in records) here ∙ from.faultless place);
        said = from.said;
      }

  pub IsFirstFault-rows_after : (records : List Fields) (fault : TableFault) → rows_after same row_in [] records ≡ Err fault → IsFirstFault same row_in records fault
  IsFirstFault-rows_after records fault h =
      let from : FaultFrom [] records fault = fault_from [] records fault h in
      let here : from.place ≡ 0 + from.place = omega arith in
      record {
        place = from.place;
        number = omega (arith, from.number);
        kind = ap (kind_at same row_in records) here ∙ from.kind;
        earlier = λ before b. (let there : before ≡ 0 + before = omega arith in ap (kind_at same row_in records) there ∙ from.earlier before b);
      }
