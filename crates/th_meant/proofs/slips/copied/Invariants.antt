use Rattle.std.proofs.Common.{◌≡◌, length, take}
use Rattle.th_meant.proofs.slips.copied.Given as goal

abbrev pub invariant-loop-digit : goal.invariant-loop-digit
invariant-loop-digit l = record {
  own : l.own.items ≡ take l.digit-index l.digits;
  few : length l.own.items ≡ l.digit-index;
}
