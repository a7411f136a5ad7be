use Rattle.std.proofs.Common.{◌≡◌, ◌+◌, List, ◌∷◌, [], ◌++◌, All, length, ap, subst, sym, arith}
use Rattle.std.proofs.lemmas.List.Elements.{All-push}
use Rattle.th_conversions.specs.Rows.{IsRow}
use Rattle.th_conversions.specs.declared.rows.Row.{Row}
use Rattle.th_conversions.proofs.TableLemmas.{SoFar, read_row}
use Rattle.th_conversions.proofs.tables.rows_under.Goals as goal

pub records-preserved : goal.records-preserved
records-preserved c =
    let rows = c.records.rows.items in
    let row = c.in-Ok.row in
    let first = rw c.if-branch.true at c.in_ok-next.ensures.next in
    let added : c.push.new.self.items ≡ rows ++ row ∷ [] = c.in_ok-push-in-Ok.ensures.items in
    record {
      so_far = subst (λ (rows : List Row). SoFar c.args.columns c.args.reader.now.records c.next.new.self.records rows (c.records.number + 1)) (sym added)
          (read_row c.args.columns c.args.reader.now.records c.records.reader.records _ c.next.new.into rows c.records.number row c.records.invariant.so_far first (sym c.in-Ok.ensures.row));
      allowed = subst (All IsRow) (sym added) (All-push IsRow rows row c.records.invariant.allowed c.in-Ok.ensures.allowed);
      counted = omega (arith, ap length first, c.records.invariant.counted);
      few = omega (arith, c.in_ok-push-in-Ok.ensures.len, c.records.invariant.few);
    }
