use Rattle.std.proofs.Common.{◌≡◌, length, take}
use Rattle.th_meant.proofs.nearest.named.Given as goal

abbrev pub invariant-loop-height : goal.invariant-loop-height
invariant-loop-height l = record {
  named : l.named.items ≡ take l.height-index l.kept.items;
  few : length l.named.items ≡ l.height-index;
}
