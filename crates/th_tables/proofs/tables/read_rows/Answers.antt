use Rattle.std.proofs.Common.{◌≡◌, ◌+◌, ◌++◌, ◌∷◌, [], true, false, is_some, All, inr, ap, subst, sym, ◌∙◌, rules}
use Rattle.std.proofs.lemmas.List.Elements.{All-nil, All-push}
use Rattle.std.specs.Map.{lookup}
use Rattle.th_tables.proofs.TableLemmas.{ReadUpTo, inserted_last, read_none, read_repeated, read_row}
use Rattle.th_tables.proofs.tables.read_rows.Goals as goal

pub returns-then-is_some-clause-fault : goal.returns-then-is_some-clause-fault
returns-then-is_some-clause-fault g c =
    let same = g.T.Key.PartialEq.eq in
    let first = rw c.if-branch.true at c.in_ok-next.ensures.next in
    let there : is_some (lookup (same c.in-Ok.row.0) c.records.rows.entries) ≡ true = ap is_some (sym c.in_ok-insert_stated.ensures.old) ∙ sym c.if-is_some.ensures in
    inr (read_repeated same g.T.Table.row_in c.args.reader.now.records c.records.reader.records _ c.next.new.into c.records.rows.entries c.records.number
    c.in-Ok.row c.records.invariant.read first (sym c.in-Ok.ensures.row) there)

pub records-preserved : goal.records-preserved
records-preserved g c =
    let same = g.T.Key.PartialEq.eq in
    let row = c.in-Ok.row in
    let rows = c.records.rows.entries in
    let first = rw c.if-branch.true at c.in_ok-next.ensures.next in
    let absent : is_some (lookup (same row.0) rows) ≡ false = ap is_some (sym c.in_ok-insert_stated.ensures.old) ∙ sym c.if-is_some.ensures in
    let entries : c.insert_stated.new.map.entries ≡ rows ++ row ∷ [] = inserted_last same c.records.rows row.0 row.1 c.insert_stated.new.map.entries c.in_ok-insert_stated.ensures.entries absent in
    let read = read_row same g.T.Table.row_in c.args.reader.now.records c.records.reader.records _ c.next.new.into rows c.records.number row c.records.invariant.read first
    (sym c.in-Ok.ensures.row) absent in
    record {
      read = subst (λ rows. ReadUpTo same g.T.Table.row_in c.args.reader.now.records c.next.new.self.records rows (c.records.number + 1)) (sym entries) read;
      unique = c.in_ok-insert_stated.ensures.unique;
      allowed = subst (All (λ row. g.T.Table.IsAllowed row.1)) (sym entries) (All-push (λ row. g.T.Table.IsAllowed row.1) rows row c.records.invariant.allowed c.in-Ok.ensures.allowed);
    }

pub records-init : goal.records-init
records-init g c =
    let same = g.T.Key.PartialEq.eq in
    let none : c.in_ok-rows.rows.entries ≡ [] = search rules in
    record {
      read = subst (λ rows. ReadUpTo same g.T.Table.row_in c.args.reader.now.records c.args.reader.now.records rows 1) (sym none) (read_none same g.T.Table.row_in c.args.reader.now.records);
      unique = c.in_ok-rows.ensures.unique;
      allowed = subst (All (λ row. g.T.Table.IsAllowed row.1)) (sym none) (All-nil (λ row. g.T.Table.IsAllowed row.1));
    }
