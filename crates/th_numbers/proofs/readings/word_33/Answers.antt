use Rattle.std.proofs.Common.{ℤ, ◌+ℤ◌, ◌-ℤ◌, of_z, to_z, w64, arith}
use Rattle.std.proofs.lemmas.Int.{fits_signed_from_abs, ints, to_z-of_z}
use Rattle.th_numbers.proofs.readings.word_33.Goals as goal

pub returns : goal.returns
returns c =
    let d : ℤ = c.difference.result in
    let i : ℤ = c.height_in-instrument.result in
    let r : ℤ = c.height_in-reflector.result in
    let plain_d = to_z-of_z w64 d (fits_signed_from_abs w64 d (omega (arith, c.difference.ensures.in_range))) in
    let plain_i = to_z-of_z w64 i (fits_signed_from_abs w64 i (omega (arith, c.height_in-instrument.ensures.small))) in
    let plain_r = to_z-of_z w64 r (fits_signed_from_abs w64 r (omega (arith, c.height_in-reflector.ensures.small))) in
    let x : ℤ = to_z w64 (of_z w64 d) -ℤ to_z w64 (of_z w64 i) in
    let plain_x = to_z-of_z w64 x (fits_signed_from_abs w64 x (omega (arith, ints, plain_d, plain_i, c.difference.ensures.in_range, c.height_in-instrument.ensures.small))) in
    let y : ℤ = to_z w64 (of_z w64 x) +ℤ to_z w64 (of_z w64 r) in
    let plain_y = to_z-of_z w64 y (fits_signed_from_abs w64 y (omega (arith, ints, plain_d, plain_i, plain_r, plain_x, c.difference.ensures.in_range, c.height_in-instrument.ensures.small, c.height_in-reflector.ensures.small))) in
    omega (arith, ints, plain_d, plain_i, plain_r, plain_x, plain_y, c.difference.ensures.value, c.height_in-instrument.ensures.value, c.height_in-reflector.ensures.value)
