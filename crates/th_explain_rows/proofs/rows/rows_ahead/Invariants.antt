use Rattle.std.proofs.Common.{◌≡◌, take}
use Rattle.std.specs.List.{enumerate_from}
use Rattle.th_explain_rows.specs.Inside.Passing.{AreRowsAhead}
use Rattle.th_explain_rows.proofs.rows.rows_ahead.Given as goal

abbrev pub invariant-loop-k : goal.invariant-loop-k
invariant-loop-k l = record {
  rows : AreRowsAhead l.fn.mending.case.now l.found.filter l.found.cutoff (take l.k (enumerate_from 0 l.candidates)) l.rows.items;
  case : l.mending.case.now ≡ l.fn.mending.case.now;
}
