-- The rows of a table as its records are read one after the other.
use Rattle.std.proofs.Common.{◌≡◌, ◌+◌, ◌||◌, ℕ, Bool, true, false, if◌then◌else◌, List, [], ◌∷◌, ◌++◌, length, map, Option, Some, None, is_some, Result, Ok, Err, refl, sym, ap, ◌∙◌, append_assoc, arith, length-append}
use Rattle.std.specs.List.{list_any}
use Rattle.std.specs.Map.{lookup}
use Rattle.std.proofs.lemmas.List.{append-nil, map-append}
use Rattle.indexmap.specs.IndexMap.{IndexMap, get, insert_entry}
use Rattle.indexmap.proofs.CallerLemmas.{insert_entry-new}
use Rattle.th_csv.specs.Records.{Fields}
use Rattle.th_tables.specs.Tables.{is_row_with, row_first, rows_after, unless_repeated}
use Rattle.th_tables.specs.declared.faults.TableFault.{TableFault}
use Rattle.th_tables.specs.declared.faults.TableKind.{TableKind}
use Rattle.th_tables.specs.declared.faults.TableKind.TheVariants.{Repeated}

module _ {K V : Type 0} where
  -- rows before those of later records, or the fault of these
  abbrev pub rows_before : List (K × V) → Result (List (K × V)) TableFault → Result (List (K × V)) TableFault
  rows_before rows (Ok later) = Ok (rows ++ later)
  rows_before rows (Err fault) = Err fault

  no_rows_before : (later : Result (List (K × V)) TableFault) → later ≡ rows_before [] later
  no_rows_before (Ok later) = refl
  no_rows_before (Err fault) = refl

  -- one row more before the others
  rows_before-push : (above : ℕ) (rows : List (K × V)) (row : K × V) (later : Result (List (K × V)) TableFault)
      → rows_before rows (row_first above (Ok row) later) ≡ rows_before (rows ++ row ∷ []) later
  rows_before-push above rows row (Ok later) = ap Ok (sym (append_assoc rows (row ∷ []) later))
  rows_before-push above rows row (Err fault) = refl

module _ {K V : Type 0} (same : K → K → Bool) (row_in : Fields → Result (K × V) TableKind) where
  -- of all records those before the ones that are left say these rows, and the last of them is record `number`
  pub record ReadUpTo (all left : List Fields) (rows : List (K × V)) (number : ℕ) : Type 0 where
    pub done : List Fields
    pub joined : all ≡ done ++ left
    pub says : map row_in done ≡ map Ok rows
    pub so_far : rows_after same row_in [] all ≡ rows_before rows (rows_after same row_in done left)
    pub counted : number ≡ length done + 1

  -- before the first record
  pub read_none : (all : List Fields) → ReadUpTo all all [] 1
  read_none all = record {
    done = [];
    joined = refl;
    says = refl;
    so_far = no_rows_before (rows_after same row_in [] all);
    counted = refl;
  }

  -- an earlier record has this key just where a row has it
  any_row : (key : K) (done : List Fields) (rows : List (K × V)) → map row_in done ≡ map Ok rows → list_any (λ other. is_row_with same key (row_in other)) done ≡ is_some (lookup (same key) rows)
  any_row key [] [] says = refl
  any_row key [] (row ∷ rows) says = cc says
  any_row key (first ∷ done) [] says = cc says
  any_row key (first ∷ done) (row ∷ rows) says =
      let here : row_in first ≡ Ok row = cc in
      let rest : map row_in done ≡ map Ok rows = cc in
      ap (λ read. is_row_with same key read || list_any (λ other. is_row_with same key (row_in other)) done) here
      ∙ ap (λ later. same key row.0 || later) (any_row key done rows rest)
      ∙ by (same key row.0)
    where
      by : (b : Bool) → (b || is_some (lookup (same key) rows)) ≡ is_some (if b then Some row.1 else lookup (same key) rows)
      by true = refl
      by false = refl

  -- the first of the records that are left
  next_row : (all left later : List Fields) (this : Fields) (rows : List (K × V)) (number : ℕ) (read : ReadUpTo all left rows number) → left ≡ this ∷ later
      → rows_after same row_in [] all ≡ rows_before rows (row_first (length read.done) (unless_repeated same row_in read.done (row_in this)) (rows_after same row_in (read.done ++ this ∷ []) later))
  next_row all left later this rows number read first = read.so_far ∙ ap (λ left. rows_before rows (rows_after same row_in read.done left)) first

  -- whether it repeats a key
  repeats : (all left : List Fields) (this : Fields) (rows : List (K × V)) (number : ℕ) (row : K × V) (read : ReadUpTo all left rows number) → row_in this ≡ Ok row
      → unless_repeated same row_in read.done (row_in this) ≡ (if is_some (lookup (same row.0) rows) then Err Repeated else Ok row)
  repeats all left this rows number row read says =
      ap (unless_repeated same row_in read.done) says ∙ ap (λ repeated. if repeated then Err Repeated else Ok row) (any_row row.0 read.done rows read.says)

  -- a record with a key that is there
  pub read_repeated : (all left later : List Fields) (this : Fields) (rows : List (K × V)) (number : ℕ) (row : K × V) → ReadUpTo all left rows number → left ≡ this ∷ later
      → row_in this ≡ Ok row → is_some (lookup (same row.0) rows) ≡ true → rows_after same row_in [] all ≡ Err (record { row = number + 1; kind = Repeated })
  read_repeated all left later this rows number row read first says there =
      next_row all left later this rows number read first
      ∙ ap (λ it. rows_before rows (row_first (length read.done) it (rows_after same row_in (read.done ++ this ∷ []) later)))
      (repeats all left this rows number row read says ∙ ap (λ repeated. if repeated then Err Repeated else Ok row) there)
      ∙ (let numbered : length read.done + 2 ≡ number + 1 = omega (arith, read.counted) in ap (λ n. Err (record { row = n; kind = Repeated })) numbered)

  -- a record with a new key
  pub read_row : (all left later : List Fields) (this : Fields) (rows : List (K × V)) (number : ℕ) (row : K × V) → ReadUpTo all left rows number → left ≡ this ∷ later
      → row_in this ≡ Ok row → is_some (lookup (same row.0) rows) ≡ false → ReadUpTo all later (rows ++ row ∷ []) (number + 1)
  read_row all left later this rows number row read first says absent = record {
    done = read.done ++ this ∷ [];
    joined = read.joined ∙ ap (λ left. read.done ++ left) first ∙ sym (append_assoc read.done (this ∷ []) later);
    says = map-append row_in read.done (this ∷ [])
        ∙ ap (λ front. front ++ row_in this ∷ []) read.says
        ∙ ap (λ it. map Ok rows ++ it ∷ []) says
        ∙ sym (map-append Ok rows (row ∷ []));
    so_far = next_row all left later this rows number read first
        ∙ ap (λ it. rows_before rows (row_first (length read.done) it (rows_after same row_in (read.done ++ this ∷ []) later)))
        (repeats all left this rows number row read says ∙ ap (λ repeated. if repeated then Err Repeated else Ok row) absent)
        ∙ rows_before-push (length read.done) rows row (rows_after same row_in (read.done ++ this ∷ []) later);
    counted = omega (arith, length-append read.done (this ∷ []), read.counted);
  }

-- no value
pub none_from_test : {X : Type 0} (found : Option X) → is_some found ≡ false → found ≡ None
none_from_test None h = refl
none_from_test (Some x) h = cc h

-- a key that was not there goes last
pub inserted_last : {K V S : Type 0} (same : K → K → Bool) (rows : IndexMap K V S) (key : K) (value : V) (after : List (K × V))
    → after ≡ insert_entry same rows.entries key value → is_some (get same rows key) ≡ false → after ≡ rows.entries ++ (key, value) ∷ []
inserted_last same rows key value after inserted absent = inserted ∙ insert_entry-new same rows key value (none_from_test (get same rows key) absent)
