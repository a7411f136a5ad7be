use Rattle.std.proofs.Common.{All, length}
use Rattle.indexmap.specs.IndexMap.{IsUnique}
use Rattle.th_tables.proofs.TableLemmas.{ReadUpTo}
use Rattle.th_tables.proofs.tables.read_rows.Given as goal

abbrev pub invariant-records : goal.invariant-records
invariant-records g l = record {
  read : ReadUpTo g.T.Key.PartialEq.eq g.T.Table.row_in l.initial.reader.records l.reader.records l.rows.entries l.number;
  unique : IsUnique g.T.Key.PartialEq.eq l.rows;
  allowed : All (λ row. g.T.Table.IsAllowed row.1) l.rows.entries;
}

abbrev pub decreases-records : goal.decreases-records
decreases-records g l = length l.reader.records
