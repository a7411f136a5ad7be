use Rattle.std.proofs.Common.{arith}
use Rattle.th_network.proofs.MarkLemmas.{none_marked, one_more_marked, all_marked}
use Rattle.th_network.proofs.marks.Marks.mark_all.Goals as goal

pub loop-place-init : goal.loop-place-init
loop-place-init c = none_marked _ _ _

pub loop-place-preserved : goal.loop-place-preserved
loop-place-preserved c = one_more_marked _ _ _ _ _ _ _ _ (omega arith) c.in_ok-mark.ensures.added c.in_ok-mark.ensures.spreads c.loop-place.invariant

pub returns : goal.returns
returns c = record {
  added = all_marked _ _ _ _ _ _ (omega arith) c.loop-place.invariant;
  spreads = c.loop-place.invariant.spreads;
}
