use Rattle.std.proofs.Common.{◌≡◌, ◌++◌, drop, map}
use Rattle.th_csv.specs.Texts.{csv_text}
use Rattle.th_review_texts.specs.Tables.{entries_text, entry_record}
use Rattle.th_review_texts.proofs.tables.entries_csv.Given as goal

abbrev pub invariant-loop-row : goal.invariant-loop-row
invariant-loop-row l = l.rows.text ++ csv_text (map entry_record (drop l.row-index l.entries)) ≡ entries_text l.entries
