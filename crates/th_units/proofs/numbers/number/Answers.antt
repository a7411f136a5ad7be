use Rattle.std.proofs.Common.{◌+◌, arith}
use Rattle.th_units.proofs.Digits.{number_more, number_front, number_below}
use Rattle.th_units.proofs.numbers.number.Goals as goal

pub overflow_mul-number : goal.overflow_mul-number
overflow_mul-number c =
    let digits = c.args.digits.now in
    let index = c.loop-digit.digit-index in
    omega (arith, number_more digits index c.requires.digits (omega arith), number_front digits (index + 1), number_below digits 18 c.requires.digits c.requires.short, c.loop-digit.invariant)

pub overflow_add-number : goal.overflow_add-number
overflow_add-number c =
    let digits = c.args.digits.now in
    let index = c.loop-digit.digit-index in
    omega (arith, number_more digits index c.requires.digits (omega arith), number_front digits (index + 1), number_below digits 18 c.requires.digits c.requires.short, c.loop-digit.invariant)

pub loop-digit-preserved : goal.loop-digit-preserved
loop-digit-preserved c = omega (arith, number_more c.args.digits.now c.loop-digit.digit-index c.requires.digits (omega arith), c.loop-digit.invariant)
