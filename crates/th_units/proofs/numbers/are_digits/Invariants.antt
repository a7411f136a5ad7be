use Rattle.std.proofs.Common.{◌≡◌, ◌&&◌, length, nat_lt, take}
use Rattle.std.specs.List.{list_all}
use Rattle.th_units.specs.Lengths.{is_digit}
use Rattle.th_units.proofs.numbers.are_digits.Given as goal

abbrev pub invariant-loop-byte : goal.invariant-loop-byte
invariant-loop-byte l = l.all ≡ (nat_lt 0 (length l.bytes) && list_all is_digit (take l.byte-index l.bytes))
