use Rattle.std.proofs.Common.{◌≡◌, take}
use Rattle.th_units.specs.Lengths.{number}
use Rattle.th_units.proofs.numbers.number.Given as goal

abbrev pub invariant-loop-digit : goal.invariant-loop-digit
invariant-loop-digit l = l.number ≡ number (take l.digit-index l.digits)
