-- Readings of few rows, and of many.
use Rattle.std.proofs.Common.{◌≡◌, ℕ, Bool, true, false, List, [], if◌then◌else◌, subst, sym}
use Rattle.th_entries.specs.declared.entries.Entry.{Entry}
use Rattle.th_explain_texts.specs.declared.rows.ReadingRow.{ReadingRow}
use Rattle.th_explain_texts.specs.declared.rows.Row.{Row}
use Rattle.th_network.specs.Networks.{Survey}
use Rattle.th_names.specs.Names.{AreOfRows}

pub many_rows : (survey : Survey) (entries : List Entry) (limit : ℕ) (rows : List Row) (readings : List ReadingRow) (few : Bool) → few ≡ false → readings ≡ [] → AreOfRows survey entries limit (if few then rows else []) readings
many_rows survey entries limit rows readings few many none =
    subst (λ (b : Bool). AreOfRows survey entries limit (if b then rows else []) readings) (sym many) (record { each = []; are_at = tt; listed = none })

pub few_rows : (survey : Survey) (entries : List Entry) (limit : ℕ) (rows : List Row) (readings : List ReadingRow) (few : Bool) → few ≡ true → AreOfRows survey entries limit rows readings → AreOfRows survey entries limit (if few then rows else []) readings
few_rows survey entries limit rows readings few holds are =
    subst (λ (b : Bool). AreOfRows survey entries limit (if b then rows else []) readings) (sym holds) are
