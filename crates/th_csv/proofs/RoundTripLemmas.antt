-- Rows that are written are read again.
use Rattle.std.proofs.Common.{◌≡◌, ◌<◌, ◌≤◌, ◌+◌, ◌==◌, ℕ, false, List, [], ◌∷◌, length, All, map, refl, ap, ◌∙◌, suc, zero, arith, length-append}
use Rattle.std.proofs.lemmas.List.Elements.{All-tail}
use Rattle.csv.specs.Machine.{next_record}
use Rattle.csv.specs.Reading.{default_config, records_from, strip_bom}
use Rattle.csv.specs.Writing.{is_blank, read_back}
use Rattle.csv.specs.declared.parser.State.TheVariants as st
use Rattle.csv.proofs.RoundTrip.{read-write}
use Rattle.th_csv.specs.Records.{Fields, records_of}
use Rattle.th_csv.specs.Texts.{HasField, IsUnmarked, csv_text, row_text}

-- a row's text has its line end
row_takes : (row : Fields) → 0 < length (row_text row)
unfolding is_blank
row_takes [] = omega arith
row_takes (field ∷ rest) = simp length-append (omega arith)

-- there are no more rows than their text has bytes
length-csv_text : (rows : List Fields) → length rows ≤ length (csv_text rows)
length-csv_text [] = omega arith
length-csv_text (row ∷ rows) = omega (arith, row_takes row, length-csv_text rows, length-append (row_text row) (csv_text rows))

-- rows are read back, however far the reading may go once it is far enough
read_rows : (far : ℕ) (rows : List Fields) → length rows < far → records_from default_config far st.StartRecord (csv_text rows) ≡ map read_back rows
unfolding records_from next_record
read_rows zero rows enough = absurd (omega arith)
read_rows (suc far) [] enough = refl
read_rows (suc far) (row ∷ rows) enough = rw (read-write row (csv_text rows)) (ap (λ later. read_back row ∷ later) (read_rows far rows (omega arith)))

-- a row that has a field is read back as it was
read_back_same : (rows : List Fields) → All HasField rows → map read_back rows ≡ rows
read_back_same [] each = refl
read_back_same ([] ∷ rows) each =
    let field : 0 < length {A = List ℕ} [] = each 0 [] (omega arith) in
    absurd (omega arith)
read_back_same ((field ∷ rest) ∷ rows) each = ap (λ later. (field ∷ rest) ∷ later) (read_back_same rows (All-tail HasField (field ∷ rest) rows each))

-- rows that are written are read again
pub records_of_csv_text : (rows : List Fields) → All HasField rows → IsUnmarked (csv_text rows) → records_of (csv_text rows) ≡ rows
records_of_csv_text rows each unmarked =
    ap (λ text. records_from default_config (length text + 1) st.StartRecord text) unmarked ∙ read_rows (length (csv_text rows) + 1) rows (omega (arith, length-csv_text rows)) ∙ read_back_same rows each

-- a text that begins with another byte has no byte order mark
pub unmarked_text : (byte : ℕ) (rest : List ℕ) → (byte == 239) ≡ false → IsUnmarked (byte ∷ rest)
unfolding strip_bom
unmarked_text byte [] other = refl
unmarked_text byte (second ∷ []) other = refl
unmarked_text byte (second ∷ third ∷ rest) other = rw other refl
