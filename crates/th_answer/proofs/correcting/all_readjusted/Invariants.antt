use Rattle.std.proofs.Common.{◌≡◌, take}
use Rattle.th_answer.specs.Inside.Readjusted.{AreReadjusted}
use Rattle.th_answer.proofs.correcting.all_readjusted.Given as goal

abbrev pub invariant-loop-row : goal.invariant-loop-row
invariant-loop-row l = record {
  listed : AreReadjusted l.fn.mending.case.now.network.now l.kinds.entries.now l.limit (take l.row-index l.rows) l.listed.items;
  case : l.mending.case.now ≡ l.fn.mending.case.now;
}
