use Rattle.std.proofs.Common.{◌≡◌, min, take}
use Rattle.th_units.specs.Lengths.{number}
use Rattle.th_certificate.specs.Certified.{cost_limit}
use Rattle.th_certificate.proofs.numbers.capped_number.Given as goal

abbrev pub invariant-loop-digit : goal.invariant-loop-digit
invariant-loop-digit l = l.number ≡ min (number (take l.digit-index l.digits)) cost_limit
