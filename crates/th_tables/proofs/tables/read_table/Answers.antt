use Rattle.std.proofs.Common.{length, ap, arith}
use Rattle.th_tables.proofs.tables.read_table.Goals as goal

pub read_rows-requires : goal.read_rows-requires
read_rows-requires g c =
    let first = rw c.if-not-branch.false at c.in_ok-next.ensures.next in
    omega (arith, ap length first)
