use Rattle.th_cuts.specs.Drains.{on_side}
use Rattle.th_reliability.specs.Blames.{blamed_weights}
use Rattle.th_reliability.specs.Inside.Blamed.{IsBlamed}
use Rattle.th_reliability.specs.Inside.Sides.{names_beyond}
use Rattle.th_reliability.proofs.blames.blamed_of.Given as goal

abbrev pub invariant-loop-i : goal.invariant-loop-i
invariant-loop-i l = IsBlamed (blamed_weights l.network l.mistaken (names_beyond l.network (on_side l.side))) l.i l.blamed
