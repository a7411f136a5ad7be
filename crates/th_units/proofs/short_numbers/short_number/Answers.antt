use Rattle.std.proofs.Common.{arith, sym, ◌∙◌}
use Rattle.th_units.proofs.Digits.{all_digits, number_below}
use Rattle.th_units.proofs.short_numbers.short_number.Goals as goal

pub overflow_cast-result : goal.overflow_cast-result
overflow_cast-result c =
    let bytes = c.args.bytes.now in
    let digits = all_digits bytes (sym c.are_digits.ensures ∙ c.if-are_digits.true) in
    omega (arith, c.number.ensures, number_below bytes 9 digits c.if-bytes-le-MAX_SHORT.true)
