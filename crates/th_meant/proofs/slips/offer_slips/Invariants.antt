use Rattle.std.proofs.Common.{◌≡◌}
use Rattle.th_meant.specs.Inside.Nearest.{with_offers}
use Rattle.th_meant.specs.Inside.Slips.{all_read, slips_below}
use Rattle.th_meant.proofs.slips.offer_slips.Given as goal

abbrev pub invariant-loop-place : goal.invariant-loop-place
invariant-loop-place l = l.kept.items ≡ with_offers l.sought l.initial.kept.items (all_read l.typed (slips_below l.digits.items l.place))
