use Rattle.std.proofs.Common.{◌≡◌, ◌+◌, All, length, vec_len}
use Rattle.th_conversions.specs.Rows.{IsRow}
use Rattle.th_conversions.proofs.TableLemmas.{SoFar}
use Rattle.th_conversions.proofs.tables.rows_under.Given as goal

abbrev pub invariant-records : goal.invariant-records
invariant-records l = record {
  so_far : SoFar l.columns l.initial.reader.records l.reader.records l.rows.items l.number;
  allowed : All IsRow l.rows.items;
  counted : l.number + length l.reader.records ≡ 1 + length l.initial.reader.records;
  few : vec_len l.rows + 1 ≡ l.number;
}

abbrev pub decreases-records : goal.decreases-records
decreases-records l = length l.reader.records
