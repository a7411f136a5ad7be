use Rattle.std.proofs.Common.{◌+◌, List, length, ap, subst, sym, arith}
use Rattle.th_mend.specs.declared.changes.Change.{Change}
use Rattle.th_mend.proofs.TableLemmas.{SoFar, read_change}
use Rattle.th_mend.proofs.tables.changes_under.Goals as goal

pub records-preserved : goal.records-preserved
records-preserved c =
    let own = c.in_ok-append_change.ensures.change in
    let first = rw c.if-branch.true at c.in_ok-next.ensures.next in
    record {
      so_far = subst (λ (changes : List Change). SoFar c.args.reader.now.records c.next.new.self.records changes (c.records.number + 1)) (sym own.added)
          (read_change c.args.reader.now.records c.records.reader.records _ c.next.new.into c.records.changes.items c.records.number own.change c.records.invariant.so_far first own.is);
      counted = omega (arith, ap length first, c.records.invariant.counted);
      few = omega (arith, c.in_ok-append_change.ensures.len, c.records.invariant.few);
    }
