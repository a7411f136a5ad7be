use Rattle.std.proofs.Common.{Bool, true, Some, Result, Ok, Err, IfOk, MatchResult, OnOk, ◌≡◌, inl, subst, sym}
use Rattle.std.specs.Result.{IsErrAnd}
use Rattle.csv.specs.Reading.{ReadRecord, Ready, is_flexible, reader_trim, took_first}
use Rattle.csv.specs.declared.error.Error.{Error}
use Rattle.csv.specs.declared.reader.Trim.TheVariants as trim
use Rattle.th_csv.specs.Inside.Readers.{BytesReader, IsReading, ReadsFront}
use Rattle.th_csv.specs.Records.{Fields}
use Rattle.th_csv.proofs.RecordLemmas.{reads_front}
use Rattle.th_csv.proofs.reading.read_next.Goals as goal

-- what holds of a result holds of it with another error
with_error : {X E F : Type 0} (P : X → Type 0) (Q : E → F → Type 0) (result : Result X E) (other : Result X F) → IfOk result P
    → MatchResult result (λ v. other ≡ Ok v) (λ e. IsErrAnd other (Q e)) → IfOk other P
with_error P Q (Ok v) other holds cases = subst (λ r. IfOk r P) (sym cases) holds
with_error P Q (Err e) (Ok v) holds cases = absurd cases
with_error P Q (Err e) (Err f) holds cases = tt

-- a read that did not fail found a record or none
each_read : (result : Result Bool Error) (old new : BytesReader) (fields : Fields) → IsReading old
    → IfOk result (λ found. (reader_trim old ≡ trim.None) → Ready old → ReadRecord (λ s. Some s.now) old new found fields)
    → ((reader_trim old ≡ trim.None) → OnOk result (took_first new ≡ true))
    → OnOk result (is_flexible new ≡ is_flexible old)
    → IfOk result (λ found. ReadsFront old new found fields)
each_read (Ok found) old new fields reading reads ready flexible =
    reads_front old new found fields reading (reads reading.untrimmed reading.ready) (inl (ready reading.untrimmed)) flexible
each_read (Err e) old new fields reading reads ready flexible = tt

pub returns : goal.returns
returns c =
    with_error _ _ c.read_byte_record.result c.map_err.result
    (each_read c.read_byte_record.result c.args.reader.now c.read_byte_record.new.self _ c.requires c.read_byte_record.ensures.reads c.read_byte_record.ensures.ready c.read_byte_record.ensures.flexible)
    c.map_err.ensures.cases
