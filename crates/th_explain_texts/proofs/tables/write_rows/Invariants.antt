use Rattle.std.proofs.Common.{◌≡◌, ◌++◌, drop, map}
use Rattle.std.specs.List.{enumerate_from}
use Rattle.th_csv.specs.Texts.{csv_text}
use Rattle.th_explain_texts.specs.Tables.{row_record, row_records}
use Rattle.th_explain_texts.proofs.tables.write_rows.Given as goal

abbrev pub invariant-loop-place : goal.invariant-loop-place
invariant-loop-place l =
    l.records.text ++ csv_text (map (row_record l.named) (enumerate_from l.place (drop l.place l.rows))) ≡ l.fn.records.text ++ csv_text (row_records l.rows l.named)
