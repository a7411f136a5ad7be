-- Where raised heights are.
use Rattle.std.proofs.Common.{◌≡◌, ◌<◌, ◌≤◌, ◌-◌, ◌*◌, ◌/◌, ℕ, max, arith}
use Rattle.std.proofs.Math.Nat.{div-le_of_le-mul, div-mul-le_self}
use Rattle.std.proofs.lemmas.Nat.{le-div}
use Rattle.th_picture.specs.Laws.{IsOnScale}
use Rattle.th_picture.specs.Scales.{apart, high_of, y_of}
use Rattle.th_picture.specs.declared.scales.Scale.{Scale}

quotient_up : (less more divisor : ℕ) → 0 < divisor → less ≤ more → less / divisor ≤ more / divisor
quotient_up less more divisor some up = le-div (less / divisor) more divisor some (omega (arith, div-mul-le_self less divisor))

-- what is farther apart is drawn farther apart
apart_up : (scale : Scale) (at other from to : ℕ) → other - at ≤ to - from → apart scale at other ≤ apart scale from to
apart_up scale at other from to up =
    quotient_up (3000 * (other - at)) (3000 * (to - from)) (max (high_of scale - scale.low) 1) (omega arith) (omega (arith, up))

-- nothing is between a height and one that is not higher
none_apart : (scale : Scale) (at other : ℕ) → other ≤ at → apart scale at other ≡ 0
none_apart scale at other up =
    let part : 3000 * (other - at) / max (high_of scale - scale.low) 1 ≤ 0 = div-le_of_le-mul (max (high_of scale - scale.low) 1) (omega (arith, up)) in
    omega (arith, part)

pub higher_up : (scale : Scale) (at other : ℕ) → at ≤ other → y_of scale other ≤ y_of scale at
higher_up scale at other up =
    let below : apart scale other (high_of scale) ≤ apart scale at (high_of scale) = apart_up scale other (high_of scale) at (high_of scale) (omega (arith, up)) in
    let above : apart scale (high_of scale) at ≤ apart scale (high_of scale) other = apart_up scale (high_of scale) at (high_of scale) other (omega (arith, up)) in
    omega (arith, below, above)

pub on_from : (scale : Scale) (at : ℕ) → IsOnScale scale at → 400 ≤ y_of scale at
on_from scale at on =
    let above : apart scale (high_of scale) at ≡ 0 = none_apart scale (high_of scale) at (omega (arith, on.upto)) in
    omega (arith, above)

pub on_upto : (scale : Scale) (at : ℕ) → IsOnScale scale at → y_of scale at ≤ 3400
on_upto scale at on =
    let span = max (high_of scale - scale.low) 1 in
    let part : 3000 * (high_of scale - at) / span ≤ 3000 = div-le_of_le-mul span (omega (arith, on.from)) in
    omega (arith, part)

pub over_lines : (scale : Scale) (at : ℕ) → high_of scale ≤ at → y_of scale at ≤ 400
over_lines scale at over =
    let below : apart scale at (high_of scale) ≡ 0 = none_apart scale at (high_of scale) over in
    omega (arith, below)

pub under_lines : (scale : Scale) (at : ℕ) → scale.low < high_of scale → at ≤ scale.low → 3400 ≤ y_of scale at
under_lines scale at some under =
    let span = max (high_of scale - scale.low) 1 in
    let above : apart scale (high_of scale) at ≡ 0 = none_apart scale (high_of scale) at (omega (arith, some, under)) in
    let part : 3000 ≤ 3000 * (high_of scale - at) / span = le-div 3000 (3000 * (high_of scale - at)) span (omega arith) (omega (arith, some, under)) in
    omega (arith, above, part)

pub y_below : (scale : Scale) (at : ℕ) → 300 ≤ y_of scale at
y_below scale at = omega arith

pub y_above : (scale : Scale) (at : ℕ) → y_of scale at ≤ 3500
y_above scale at = omega arith
