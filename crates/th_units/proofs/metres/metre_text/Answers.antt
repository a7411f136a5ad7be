use Rattle.std.proofs.Common.{ℕ, ◌/◌, ◌%◌, ◌<◌, ◌≤◌, ◌^◌, length, decimal, arith, ap, length-append}
use Rattle.std.proofs.lemmas.Fmt.{length-decimal-le}
use Rattle.th_units.specs.Metres.{last_digits, metre}
use Rattle.th_units.proofs.Digits.{length-last_digits}
use Rattle.th_units.proofs.metres.metre_text.Goals as goal

-- the whole metres of a length have at most twelve digits
length-whole : (size : ℕ) → size < 2 ^ 64 → length (decimal (size / metre)) ≤ 12
length-whole size small = length-decimal-le 12 (size / metre) (omega arith) (omega arith) (omega arith)

pub prepend_decimal-requires : goal.prepend_decimal-requires
prepend_decimal-requires c =
    let size = c.unsigned_abs-size.result in
    omega (
      arith,
      ap length c.prepend.ensures,
      ap length c.prepend_last_digits.ensures,
      ap length c.empty-text.ensures,
      length-append (last_digits 8 (size % metre)) c.empty-text.result,
      length-last_digits 8 (size % metre),
      length-whole size (omega arith),
    )

pub prepend-requires-then-units-lt0 : goal.prepend-requires-then-units-lt0
prepend-requires-then-units-lt0 c =
    let size = c.unsigned_abs-size.result in
    omega (
      arith,
      ap length c.prepend_decimal.ensures,
      length-append (decimal (size / metre)) c.prepend.new.self,
      ap length c.prepend.ensures,
      ap length c.prepend_last_digits.ensures,
      ap length c.empty-text.ensures,
      length-append (last_digits 8 (size % metre)) c.empty-text.result,
      length-last_digits 8 (size % metre),
      length-whole size (omega arith),
    )

pub prepend-requires : goal.prepend-requires
prepend-requires c =
    let size = c.unsigned_abs-size.result in
    omega (arith, ap length c.prepend_last_digits.ensures, ap length c.empty-text.ensures, length-append (last_digits 8 (size % metre)) c.empty-text.result, length-last_digits 8 (size % metre))
