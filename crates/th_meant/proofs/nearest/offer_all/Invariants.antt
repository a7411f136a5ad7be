use Rattle.std.proofs.Common.{◌≡◌, drop}
use Rattle.th_meant.specs.Inside.Nearest.{with_offers}
use Rattle.th_meant.proofs.nearest.offer_all.Given as goal

abbrev pub invariant-loop-height : goal.invariant-loop-height
invariant-loop-height l = with_offers l.sought l.kept.items (drop l.height-index l.heights) ≡ with_offers l.sought l.initial.kept.items l.heights
