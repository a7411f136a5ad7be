use Rattle.std.proofs.Common.{◌≡◌, ◌++◌, drop}
use Rattle.std.specs.List.{flat_map}
use Rattle.th_csv.specs.Texts.{csv_text}
use Rattle.th_explain_texts.specs.Tables.{reading_records}
use Rattle.th_explain_texts.proofs.tables.write_readings.Given as goal

abbrev pub invariant-loop-own : goal.invariant-loop-own
invariant-loop-own l =
    l.records.text ++ csv_text (flat_map (reading_records l.rows) (drop l.own-index l.readings)) ≡ l.fn.records.text ++ csv_text (flat_map (reading_records l.rows) l.readings)
