use Rattle.std.proofs.Common.{◌≡◌, ◌+◌, ◌-◌, ◌++◌, length, replicate, take}
use Rattle.th_meant.proofs.typed.padded.Given as goal

abbrev pub invariant-loop-digit : goal.invariant-loop-digit
invariant-loop-digit l = record {
  all : l.all.items ≡ replicate (4 - length l.digits) 48 ++ take l.digit-index l.digits;
  few : length l.all.items ≡ (4 - length l.digits) + l.digit-index;
}
