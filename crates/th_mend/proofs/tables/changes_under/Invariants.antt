use Rattle.std.proofs.Common.{◌≡◌, ◌+◌, length, vec_len}
use Rattle.th_mend.proofs.TableLemmas.{SoFar}
use Rattle.th_mend.proofs.tables.changes_under.Given as goal

abbrev pub invariant-records : goal.invariant-records
invariant-records l = record {
  so_far : SoFar l.initial.reader.records l.reader.records l.changes.items l.number;
  counted : l.number + length l.reader.records ≡ 1 + length l.initial.reader.records;
  few : vec_len l.changes + 1 ≡ l.number;
}

abbrev pub decreases-records : goal.decreases-records
decreases-records l = length l.reader.records
