use Rattle.std.proofs.Common.{◌≡◌, length, true}
use Rattle.std.specs.List.{list_all}
use Rattle.th_units.specs.Lengths.{is_digit, number}
use Rattle.th_units.proofs.numbers.without_zeros.Given as goal

abbrev pub invariant-loop-left : goal.invariant-loop-left
invariant-loop-left l = record {
  digits : list_all is_digit l.left ≡ true;
  number : number l.left ≡ number l.digits;
}

abbrev pub decreases-loop-left : goal.decreases-loop-left
decreases-loop-left l = length l.left
