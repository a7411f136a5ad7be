use Rattle.std.proofs.Common.{arith}
use Rattle.th_units.proofs.Digits.{number_more}
use Rattle.th_certificate.proofs.numbers.capped_number.Goals as goal

pub overflow_mul-more : goal.overflow_mul-more
overflow_mul-more c = omega (arith, c.loop-digit.invariant)

pub overflow_add-more : goal.overflow_add-more
overflow_add-more c = omega (arith, c.loop-digit.invariant, c.from.ensures, c.type_inv.digits c.loop-digit.digit-index)

pub loop-digit-preserved : goal.loop-digit-preserved
loop-digit-preserved c =
    let more = number_more c.args.digits.now c.loop-digit.digit-index c.requires c.loop-digit-test.true in
    omega (arith, more, c.loop-digit.invariant, c.from.ensures, c.min-number.ensures)
