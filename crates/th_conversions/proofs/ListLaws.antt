-- The list of a printed book is the list of its rows.
use Rattle.std.proofs.Common.{◌≡◌, ◌+◌, ℕ, List, [], ◌∷◌, map, Ok, refl, subst, ap, ◌∙◌}
use Rattle.std.specs.List.{enumerate_from}
use Rattle.th_csv.specs.Records.{Fields}
use Rattle.th_csv.specs.Texts.{csv_text}
use Rattle.th_book.specs.Books.{book_answer}
use Rattle.th_observations.specs.Observed.{Observed}
use Rattle.th_report.specs.Lists.{list_header, list_record, list_text}
use Rattle.th_conversions.specs.Books.{AreSeenAs, book_of_table, row_seen}
use Rattle.th_conversions.specs.Lists.{row_record, rows_text}
use Rattle.th_conversions.specs.Tables.{rows_of}
use Rattle.th_conversions.specs.declared.rows.Row.{Row}

-- observations have the records of the rows that they are
records_same : (number : ℕ) (observations : List Observed) → map list_record (enumerate_from number observations) ≡ map row_record (enumerate_from number (map row_seen observations))
records_same number [] = refl
records_same number (first ∷ observations) = ap (λ (later : List Fields). list_record (number, first) ∷ later) (records_same (number + 1) observations)

pub list_again : ((bytes text : List ℕ) (number : ℕ) → book_of_table bytes ≡ Ok text → (rows : List Row) × (rows_of bytes ≡ Ok rows) × AreSeenAs (book_answer number text) rows)
    → (bytes text : List ℕ) (number : ℕ) (rows : List Row) (observations : List Observed) → book_of_table bytes ≡ Ok text → rows_of bytes ≡ Ok rows → book_answer number text ≡ Ok observations
    → list_text observations ≡ rows_text rows
list_again has bytes text number rows observations made read seen =
    let found = has bytes text number made in
    let told = found.1 in
    let same : found.0 ≡ rows = cc (told, read) in
    let are_rows : map row_seen observations ≡ found.0 = subst (λ answer. AreSeenAs answer found.0) seen found.2 in
    ap (λ (records : List Fields). csv_text (list_header ∷ records)) (records_same 1 observations) ∙ ap rows_text (are_rows ∙ same)
