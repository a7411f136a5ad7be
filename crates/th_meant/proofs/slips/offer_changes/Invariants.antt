use Rattle.std.proofs.Common.{◌≡◌, drop}
use Rattle.std.specs.List.{flat_map}
use Rattle.th_meant.specs.Inside.Nearest.{with_offers}
use Rattle.th_meant.specs.Inside.Slips.{all_digits, all_read, change_to, changes_at}
use Rattle.th_meant.proofs.slips.offer_changes.Given as goal

abbrev pub invariant-loop-digit : goal.invariant-loop-digit
invariant-loop-digit l = with_offers l.sought l.kept.items (all_read l.typed (flat_map (change_to l.digits l.place) (drop l.digit-index all_digits))) ≡ with_offers l.sought l.initial.kept.items (all_read l.typed (changes_at l.digits l.place))
