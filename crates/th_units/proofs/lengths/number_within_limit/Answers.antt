use Rattle.std.proofs.Common.{arith}
use Rattle.th_units.proofs.Digits.{number_above}
use Rattle.th_units.proofs.lengths.number_within_limit.Goals as goal

pub returns-then-significant-gt-MAX_LEN_DIGITS : goal.returns-then-significant-gt-MAX_LEN_DIGITS
returns-then-significant-gt-MAX_LEN_DIGITS c =
    let significant = c.without_zeros-significant in
    λ within. omega (arith, within, significant.ensures.number, number_above significant.result.now 13 significant.ensures.digits significant.ensures.first (omega arith))
