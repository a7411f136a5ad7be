-- The rows of a table can be written, and the book of a table is read as the table's rows.
use Rattle.std.proofs.Common.{◌≡◌, ◌↔◌, ◌+◌, ◌%◌, ◌==◌, ℕ, ℤ, Bool, true, false, List, [], ◌∷◌, if◌then◌else◌, length, nat_le, Option, Some, None, Result, Ok, Err, unsigned_abs, refl, sym, subst, ap, ◌∙◌, arith}
use Rattle.std.specs.Prelude.{nat_lt}
use Rattle.std.specs.List.{AllByRecursion}
use Rattle.std.specs.Option.{ok_or}
use Rattle.std.proofs.lemmas.Bool.{false≢true}
use Rattle.std.proofs.lemmas.Bool.Decides.{nat_tests}
use Rattle.std.proofs.lemmas.Slice.Eq.{bytes_eq-Decides}
use Rattle.th_units.specs.Metres.{value}
use Rattle.th_units.specs.declared.faults.LenFault.{LenFault}
use Rattle.gsi_word.specs.Names.{name_of, same_name}
use Rattle.gsi_block.specs.Blocks.{BlockParts, IsBlock, block_at}
use Rattle.gsi_block.specs.Lines.{AreLines, lines_of}
use Rattle.gsi_block.specs.Writing.{block_line}
use Rattle.th_csv.specs.Records.{Fields, records_of}
use Rattle.th_book.specs.Books.{book_answer, lines_answer}
use Rattle.th_book.specs.Books as book
use Rattle.th_book.specs.Due.{due, due_parsed, empty}
use Rattle.th_conversions.specs.Limits.{hundredth, max_book, max_differences, max_len}
use Rattle.th_conversions.specs.Rows.{IsRow, columns_of, fields_read, is_written, row_in, row_of, row_with, written}
use Rattle.th_conversions.specs.Tables.{rows_from, rows_in, rows_of, row_first, rows_under, too_long}
use Rattle.th_conversions.specs.Books.{AreSeenAs, blocks_from, book_of_table, book_if_read, book_text, setup_block, sight_block, stands_at}
use Rattle.th_conversions.specs.declared.columns.Columns.{Columns}
use Rattle.th_conversions.specs.declared.faults.DifferenceFault.{DifferenceFault}
use Rattle.th_conversions.specs.declared.faults.DifferenceKind.{DifferenceKind}
use Rattle.th_conversions.specs.declared.faults.DifferenceKind.TheVariants.{BadDifference, BadName, ToItself}
use Rattle.th_conversions.specs.declared.rows.Row.{Row}
use Rattle.th_conversions.proofs.PrintedLines.{blocks_read, both}
use Rattle.th_conversions.proofs.SeenRows.{seen_from}
use Rattle.th_conversions.proofs.WordLemmas.{IsProper, setup_proper, sight_proper}

module _ (reduced : (bytes name : List ℕ) → name_of bytes ≡ Some name → name_of name ≡ Some name) where
  -- the row of two names and a difference
  row_passes : (row : Row) (from to : List ℕ) (difference : ℤ) (fits same : Bool) → name_of from ≡ Some from → name_of to ≡ Some to → is_written difference ≡ fits → same_name from to ≡ same
      → row_with (Ok from) (Ok to) (if fits then Ok difference else Err BadDifference) ≡ Ok row → IsRow row
  row_passes row from to difference false same is is' e a h = cc h
  row_passes row from to difference true same is is' e a h = by same a (sym (ap (λ same. if same then Err ToItself else Ok (record { from = from; to = to; difference = difference })) a) ∙ h)
    where
      by : (same : Bool) → same_name from to ≡ same → (if same then Err ToItself else Ok (record { from = from; to = to; difference = difference })) ≡ Ok row → IsRow row
      by true a h = cc h
      by false a h =
          let tests = both (nat_le (unsigned_abs difference) max_len) (unsigned_abs difference % hundredth == 0) e in
          let small = tests.0 in
          let whole = tests.1 in
          let made : record { from = from; to = to; difference = difference } ≡ row = cc in
          subst IsRow made (record {
            from = is;
            to = is';
            distinct = λ one. false≢true (sym a ∙ (bytes_eq-Decides from to).1 one);
            in_range = grind (arith, nat_tests);
            whole = grind (arith, nat_tests);
          })

  parts_pass : (row : Row) (from to : Option (List ℕ)) (difference : Result ℤ LenFault) → ((name : List ℕ) → from ≡ Some name → name_of name ≡ Some name) → ((name : List ℕ) → to ≡ Some name → name_of name ≡ Some name)
      → row_with (ok_or from BadName) (ok_or to BadName) (written difference) ≡ Ok row → IsRow row
  parts_pass row None to difference f t h = cc h
  parts_pass row (Some from) None difference f t h = cc h
  parts_pass row (Some from) (Some to) (Err fault) f t h = cc h
  parts_pass row (Some from) (Some to) (Ok difference) f t h = row_passes row from to difference (is_written difference) (same_name from to) (f from refl) (t to refl) refl refl h

  -- the row of a record can be written
  row_is : (columns : Columns) (fields : Fields) (row : Row) → row_in columns fields ≡ Ok row → IsRow row
  row_is columns fields row h = by (fields_read columns fields) h
    where
      by : (read : Option (List ℕ × List ℕ × List ℕ)) → row_of read ≡ Ok row → IsRow row
      by None h = cc h
      by (Some read) h = parts_pass row (name_of read.0) (name_of read.1) (value read.2) (reduced read.0) (reduced read.1) h

  -- each row of records
  rows_are : (columns : Columns) (number : ℕ) (records : List Fields) (rows : List Row) → rows_from columns number records ≡ Ok rows → AllByRecursion IsRow rows
  rows_are columns number [] rows h =
      let none : [] ≡ rows = cc in
      subst (AllByRecursion IsRow) none tt
  rows_are columns number (this ∷ later) rows h = by (row_in columns this) (rows_from columns (number + 1) later) refl h (rows_are columns (number + 1) later)
    where
      by : (first : Result Row DifferenceKind) (rest : Result (List Row) DifferenceFault) → row_in columns this ≡ first → row_first number first rest ≡ Ok rows
          → ((others : List Row) → rest ≡ Ok others → AllByRecursion IsRow others) → AllByRecursion IsRow rows
      by (Err kind) rest is h more = cc h
      by (Ok row) (Err fault) is h more = cc h
      by (Ok row) (Ok others) is h more =
          let all : row ∷ others ≡ rows = cc in
          subst (AllByRecursion IsRow) all (row_is columns this row is, more others refl)

  -- each row of a table
  table_rows_are : (bytes : List ℕ) (rows : List Row) → rows_of bytes ≡ Ok rows → AllByRecursion IsRow rows
  table_rows_are bytes rows h = short (nat_lt max_differences (length bytes)) h
    where
      under : (columns : Option Columns) (records : List Fields) → rows_under columns records ≡ Ok rows → AllByRecursion IsRow rows
      under None records h = cc h
      under (Some columns) records h = rows_are columns 2 records rows h

      headed : (records : List Fields) → rows_in records ≡ Ok rows → AllByRecursion IsRow rows
      headed [] h = cc h
      headed (first ∷ rest) h = under (columns_of first) rest h

      short : (long : Bool) → (if long then Err too_long else rows_in (records_of bytes)) ≡ Ok rows → AllByRecursion IsRow rows
      short true h = cc h
      short false h = headed (records_of bytes) h

-- the blocks of rows can be written
blocks_proper : (rows : List Row) → AllByRecursion IsRow rows → (running : Option (List ℕ)) (number : ℕ) → AllByRecursion IsProper (blocks_from running number rows)
blocks_proper [] each running number = tt
blocks_proper (row ∷ rows) each running number = by (stands_at running row.from) (blocks_proper rows each.1)
  where
    by : (at : Bool) → ((next : Option (List ℕ)) (later : ℕ) → AllByRecursion IsProper (blocks_from next later rows))
        → AllByRecursion IsProper (if at then sight_block number row ∷ blocks_from running (number + 1) rows else setup_block number row.from ∷ sight_block (number + 1) row ∷ blocks_from (Some row.from) (number + 2) rows)
    by true more = (sight_proper number row each.0.to, more running (number + 1))
    by false more = (setup_proper number row.from each.0.from, (sight_proper (number + 1) row each.0.to, more (Some row.from) (number + 2)))

module _ (reduced : (bytes name : List ℕ) → name_of bytes ≡ Some name → name_of name ≡ Some name)
    (reads : (line : List ℕ) (block : BlockParts) → IsBlock line block → block_at (block_line block) ≡ Ok (Some block))
    (lines : (text : List ℕ) (lines : List (List ℕ)) → (lines ≡ lines_of text) ↔ AreLines lines text)
    (owes : (number : ℕ) (lines : List (List ℕ)) → due (empty number) lines ≡ lines_answer number lines) where
  -- the lines of the book of rows give the rows
  lines_give : (rows : List Row) (number : ℕ) → AllByRecursion IsRow rows → AreSeenAs (lines_answer number (lines_of (book_text rows))) rows
  lines_give rows number each =
      let blocks = blocks_from None 1 rows in
      subst (λ answer. AreSeenAs answer rows)
      (ap (due_parsed (empty number)) (sym (blocks_read reads lines blocks (blocks_proper rows each None 1))) ∙ owes number (lines_of (book_text rows)))
      (seen_from rows each None 1 number 0 0 None [] tt)

  -- the book of a table gives the table's rows
  pub table_is_seen : (bytes text : List ℕ) (number : ℕ) → book_of_table bytes ≡ Ok text → (rows : List Row) × (rows_of bytes ≡ Ok rows) × AreSeenAs (book_answer number text) rows
  table_is_seen bytes text number h = by (rows_of bytes) refl h
    where
      seen : (rows : List Row) → AllByRecursion IsRow rows → (long : Bool) → nat_lt max_book (length (book_text rows)) ≡ long → (if long then Err too_long else Ok (book_text rows)) ≡ Ok text → AreSeenAs (book_answer number text) rows
      seen rows each true e h = cc h
      seen rows each false e h =
          let same : book_text rows ≡ text = cc in
          subst (λ text. AreSeenAs (book_answer number text) rows) same
          (subst (λ long. AreSeenAs (if long then Err book.too_long else lines_answer number (lines_of (book_text rows))) rows) (sym e) (lines_give rows number each))

      by : (read : Result (List Row) DifferenceFault) → rows_of bytes ≡ read → book_if_read read ≡ Ok text → (rows : List Row) × (rows_of bytes ≡ Ok rows) × AreSeenAs (book_answer number text) rows
      by (Err fault) is h = cc h
      by (Ok rows) is h = (rows, is, seen rows (table_rows_are reduced bytes rows is) (nat_lt max_book (length (book_text rows))) refl h)
