-- What a read of a record leaves of a text.
use Rattle.std.proofs.Common.{◌≡◌, ◌<◌, ◌≤◌, ◌+◌, ◌==◌, ◌||◌, ℕ, Bool, true, false, if◌then◌else◌, List, [], ◌∷◌, ◌++◌, length, Option, Some, None, IsSome, suc, zero, refl, sym, ap, subst, ◌∙◌, arith, add-one}
use Rattle.std.proofs.lemmas.Bool.{false≢true}
use Rattle.csv.specs.Machine.{Read, after_end, ends_at_end, field_after, fields_after, in_field, is_end, next_record, start_field, start_record, step}
use Rattle.csv.specs.Reading.{is_bom, strip_bom, ReadRecord, Reached, Ready, default_config, is_flexible, records_from, records_next, reader_state}
use Rattle.csv.specs.declared.parser.Action.{Action}
use Rattle.csv.specs.declared.parser.Action.TheVariants as act
use Rattle.csv.specs.declared.parser.Terminator.TheVariants as term
use Rattle.csv.specs.declared.parser.State.{State}
use Rattle.csv.specs.declared.parser.State.TheVariants as st
use Rattle.csv.proofs.ReadFacts.{rows-end, rows-more}
use Rattle.th_csv.specs.Inside.Readers.{BytesReader, IsReading, ReadsFront, bytes_left, records_from_state}
use Rattle.th_csv.specs.Records.{Fields, records_of}

-- one of two steps
abbrev pick : Bool → State × Action → State × Action → State × Action
pick first a b = if first then a else b

-- a step that ends a record leaves the reader between records
abbrev EndsBetween : State × Action → Type 0
EndsBetween s = is_end s.1 ≡ true → ends_at_end s.0 ≡ false

-- which holds of one of two steps that each do so
ends_pick : (first : Bool) (a b : State × Action) → EndsBetween a → EndsBetween b → EndsBetween (pick first a b)
ends_pick true a b for_a for_b = for_a
ends_pick false a b for_a for_b = for_b

-- and of a step that ends no record
ends_none : (state : State) (action : Action) → is_end action ≡ false → EndsBetween (state, action)
ends_none state action none h = absurd (false≢true (sym none ∙ h))

-- and of one that leaves the reader there
ends_there : (state : State) (action : Action) → ends_at_end state ≡ false → EndsBetween (state, action)
ends_there state action there h = there

in_field_between : (byte : ℕ) → EndsBetween (in_field default_config byte)
in_field_between byte =
    ends_pick (byte == 44) _ _ (ends_none st.StartField act.EndField refl)
    (ends_pick ((byte == 13) || (byte == 10)) _ _ (ends_there (after_end term.CRLF byte) act.EndRecord (line_end (byte == 13))) (ends_none st.InField act.Copy refl))
  where
    line_end : (returning : Bool) → ends_at_end (if returning then st.AfterCr else st.StartRecord) ≡ false
    line_end true = refl
    line_end false = refl

start_field_between : (byte : ℕ) → EndsBetween (start_field default_config byte)
start_field_between byte = ends_pick (byte == 34) _ _ (ends_none st.InQuoted act.Skip refl) (in_field_between byte)

start_record_between : (byte : ℕ) → EndsBetween (start_record default_config byte)
start_record_between byte = ends_pick ((byte == 13) || (byte == 10)) _ _ (ends_none st.StartRecord act.Skip refl) (start_field_between byte)

step_between : (state : State) (byte : ℕ) → EndsBetween (step default_config state byte)
step_between st.StartRecord byte = start_record_between byte
step_between st.StartField byte = start_field_between byte
step_between st.InField byte = in_field_between byte
step_between st.InQuoted byte = ends_pick (byte == 34) _ _ (ends_none st.AfterQuote act.Skip refl) (ends_none st.InQuoted act.Copy refl)
step_between st.InEscape byte = ends_none st.InQuoted act.Copy refl
step_between st.AfterQuote byte = ends_pick (byte == 34) _ _ (ends_none st.InQuoted act.Copy refl) (in_field_between byte)
step_between st.InComment byte = ends_pick (byte == 10) _ _ (ends_none st.StartRecord act.Skip refl) (ends_none st.InComment act.Skip refl)
step_between st.AfterCr byte = ends_pick (byte == 10) _ _ (ends_none st.StartRecord act.Skip refl) (start_record_between byte)

-- after a record the reader stands between records, and a record that begins there takes a byte
pub record Takes (state : State) (bytes : List ℕ) (read : Read) : Type 0 where
  pub between : ends_at_end read.1 ≡ false
  pub no_more : length read.2 ≤ length bytes
  pub fewer : ends_at_end state ≡ false → length read.2 < length bytes

-- a record that was read so is another that was
same_read : (a b : Read) → Some a ≡ Some b → a ≡ b
same_read a b h = cc

pub next_record_takes : (state : State) (fields : List (List ℕ)) (field bytes : List ℕ) (read : Read) → next_record default_config state fields field bytes ≡ Some read → Takes state bytes read
unfolding next_record
next_record_takes state fields field [] read h = by (ends_at_end state) refl h
  where
    by : (ends : Bool) → ends_at_end state ≡ ends → (if ends then Some (fields ++ (field ∷ []), st.StartRecord, []) else None) ≡ Some read → Takes state [] read
    by true is h =
        let at_end : (fields ++ (field ∷ []), st.StartRecord, []) ≡ read = same_read _ _ h in
        subst (Takes state []) at_end (record { between = refl; no_more = omega arith; fewer = λ begins. absurd (false≢true (sym begins ∙ is)) })
    by false is h = cc h
next_record_takes state fields field (byte ∷ bytes) read h =
    by (is_end (step default_config state byte).1) refl h (next_record_takes (step default_config state byte).0 (fields_after (step default_config state byte).1 fields field) (field_after (step default_config state byte).1 byte field) bytes read)
  where
    by : (ends : Bool) → is_end (step default_config state byte).1 ≡ ends
        → (if ends then Some (fields_after (step default_config state byte).1 fields field, (step default_config state byte).0, bytes)
        else next_record default_config (step default_config state byte).0 (fields_after (step default_config state byte).1 fields field) (field_after (step default_config state byte).1 byte field) bytes) ≡ Some read
        → (next_record default_config (step default_config state byte).0 (fields_after (step default_config state byte).1 fields field) (field_after (step default_config state byte).1 byte field) bytes ≡ Some read → Takes (step default_config state byte).0 bytes read)
        → Takes state (byte ∷ bytes) read
    by true is h more =
        let at_end : (fields_after (step default_config state byte).1 fields field, (step default_config state byte).0, bytes) ≡ read = same_read _ _ h in
        subst (Takes state (byte ∷ bytes)) at_end (record { between = step_between state byte is; no_more = omega arith; fewer = λ begins. omega arith })
    by false is h more =
        let later : Takes (step default_config state byte).0 bytes read = more h in
        record { between = later.between; no_more = omega (arith, later.no_more); fewer = λ begins. omega (arith, later.no_more) }

-- how far the reading of records may go makes no difference once it is far enough
pub records_from_far : (far further : ℕ) (state : State) (bytes : List ℕ) → ends_at_end state ≡ false → length bytes < far → length bytes < further
    → records_from default_config far state bytes ≡ records_from default_config further state bytes
unfolding records_from
records_from_far zero further state bytes between a b = absurd (omega arith)
records_from_far (suc far) zero state bytes between a b = absurd (omega arith)
records_from_far (suc far) (suc further) state bytes between a b =
    by (next_record default_config state [] [] bytes) (next_record_takes state [] [] bytes) (λ state bytes. records_from_far far further state bytes)
  where
    by : (next : Option Read) → ((read : Read) → next ≡ Some read → Takes state bytes read)
        → ((state : State) (bytes : List ℕ) → ends_at_end state ≡ false → length bytes < far → length bytes < further → records_from default_config far state bytes ≡ records_from default_config further state bytes)
        → records_next (records_from default_config far) next ≡ records_next (records_from default_config further) next
    by None takes more = refl
    by (Some read) takes more =
        let taken : Takes state bytes read = takes read refl in
        let fewer : length read.2 < length bytes = taken.fewer between in
        ap (λ later. read.0 ∷ later) (more read.1 read.2 taken.between (omega arith) (omega arith))

-- there are no more records than the reading may go far
length-records_from : (far : ℕ) (state : State) (bytes : List ℕ) → length (records_from default_config far state bytes) ≤ far
unfolding records_from
length-records_from zero state bytes = omega arith
length-records_from (suc far) state bytes = by (next_record default_config state [] [] bytes) (length-records_from far)
  where
    by : (next : Option Read) → ((state : State) (bytes : List ℕ) → length (records_from default_config far state bytes) ≤ far) → length (records_next (records_from default_config far) next) ≤ suc far
    by None more = omega arith
    by (Some read) more = omega (arith, more read.1 read.2)

-- a text is no longer without its byte order mark
length-strip_bom : (bytes : List ℕ) → length (strip_bom bytes) ≤ length bytes
unfolding strip_bom
length-strip_bom [] = omega arith
length-strip_bom (a ∷ []) = omega arith
length-strip_bom (a ∷ b ∷ []) = omega arith
length-strip_bom (a ∷ b ∷ c ∷ rest) = by (is_bom a b c)
  where
    by : (marked : Bool) → length (if marked then rest else a ∷ b ∷ c ∷ rest) ≤ length (a ∷ b ∷ c ∷ rest)
    by true = omega arith
    by false = omega arith

-- a text has at most one record more than it has bytes
pub length-records_of : (bytes : List ℕ) → length (records_of bytes) ≤ length bytes + 1
length-records_of bytes = omega (arith, length-records_from (length (strip_bom bytes) + 1) st.StartRecord (strip_bom bytes), length-strip_bom bytes)

-- the records of bytes where the next one is known
records_next_some : (state : State) (bytes : List ℕ) (read : Read) → ends_at_end state ≡ false → next_record default_config state [] [] bytes ≡ Some read
    → records_from default_config (length bytes + 1) state bytes ≡ read.0 ∷ records_from default_config (length read.2 + 1) read.1 read.2
unfolding records_from
records_next_some state bytes read between next =
    let taken : Takes state bytes read = next_record_takes state [] [] bytes read next in
    let fewer : length read.2 < length bytes = taken.fewer between in
    ap (λ far. records_from default_config far state bytes) (add-one (length bytes))
    ∙ ap (λ read. records_next (records_from default_config (length bytes)) read) next
    ∙ ap (λ later. read.0 ∷ later) (records_from_far (length bytes) (length read.2 + 1) read.1 read.2 taken.between (omega arith) (omega arith))

-- and where there is none
records_next_none : (state : State) (bytes : List ℕ) → next_record default_config state [] [] bytes ≡ None → records_from default_config (length bytes + 1) state bytes ≡ []
unfolding records_from
records_next_none state bytes none =
    ap (λ far. records_from default_config far state bytes) (add-one (length bytes)) ∙ ap (λ read. records_next (records_from default_config (length bytes)) read) none

-- bytes that are there
some_bytes : (left : Option (List ℕ)) → IsSome left → (bytes : List ℕ) × (left ≡ Some bytes)
some_bytes None h = absurd (false≢true h)
some_bytes (Some bytes) h = (bytes, refl)

-- a read gives the first of the records that were left
pub reads_front : (old new : BytesReader) (found : Bool) (fields : Fields) → IsReading old → ReadRecord (λ s. Some s.now) old new found fields → Ready new → is_flexible new ≡ is_flexible old → ReadsFront old new found fields
unfolding Reached
reads_front old new true fields reading read ready flexible =
    let now = some_bytes (bytes_left old) reading.going in
    let more = rows-more (λ s. Some s.now) old new fields default_config (reader_state old) now.0 now.0 [] reading.plain now.1 (refl, refl) read in
    let next : Read = more.2.0 in
    let taken : Takes (reader_state old) now.0 next = next_record_takes (reader_state old) [] [] now.0 next more.2.1 in (
      record {
        ready = ready;
        untrimmed = read.3 ∙ reading.untrimmed;
        flexible = flexible ∙ reading.flexible;
        plain = read.2 ∙ reading.plain;
        going = subst IsSome (sym more.1) refl;
        between = ap ends_at_end (sym more.2.3.0) ∙ taken.between;
      },
      ap (records_from_state (reader_state old)) now.1
          ∙ records_next_some (reader_state old) now.0 next reading.between more.2.1
          ∙ ap (λ first. first ∷ records_from default_config (length next.2 + 1) next.1 next.2) (sym more.2.2)
          ∙ ap (λ state. fields ∷ records_from default_config (length next.2 + 1) state next.2) more.2.3.0
          ∙ ap (λ bytes. fields ∷ records_from default_config (length bytes + 1) (reader_state new) bytes) more.2.3.1
          ∙ ap (λ left. fields ∷ records_from_state (reader_state new) left) (sym more.1),
    )
reads_front old new false fields reading read ready flexible =
    let now = some_bytes (bytes_left old) reading.going in
    ap (records_from_state (reader_state old)) now.1
    ∙ records_next_none (reader_state old) now.0 (rows-end (λ s. Some s.now) old new fields default_config now.0 reading.plain now.1 read)
