use Rattle.std.proofs.Common.{ℕ, ◌+◌, ◌-◌, ◌*◌, ◌<◌, ◌≤◌, ◌^◌, length, arith, ap, sym, subst, ◌∙◌, ◌≡◌}
use Rattle.std.proofs.Math.Nat.{one-le-pow, mul-lt-mul_of_pos_right}
use Rattle.std.proofs.lemmas.Nat.{pow-add}
use Rattle.th_units.specs.Lengths.{number}
use Rattle.th_units.proofs.Digits.{number-lt, number_below}
use Rattle.th_units.proofs.metres.units_of.Goals as goal

-- a number of some digits, filled up to eight, is below a metre
filled : (number count : ℕ) → number < 10 ^ count → count ≤ 8 → number * 10 ^ (8 - count) < 10 ^ 8
filled number count small short =
    let places : count + (8 - count) ≡ 8 = omega arith in
    let whole : 10 ^ count * 10 ^ (8 - count) ≡ 10 ^ 8 = sym (pow-add 10 count (8 - count)) ∙ ap (λ n. 10 ^ n) places in
    subst (λ n. number * 10 ^ (8 - count) < n) whole (mul-lt-mul_of_pos_right small (one-le-pow (8 - count) 10 (omega arith)))

-- the decimals of the call are less than a metre
below_a_metre : (c : goal.After-number-2) → c.number-2.result * c.pow-tens.result < 10 ^ 8
below_a_metre c =
    let bytes = c.args.decimals.now in
    rw (c.number-2.ensures, c.pow-tens.ensures) (filled (number bytes) (length bytes) (number-lt bytes c.requires.decimal_digits) c.requires.decimals_short)

pub overflow_mul-result : goal.overflow_mul-result
overflow_mul-result c = omega (arith, number_below c.args.whole.now 9 c.requires.whole_digits c.requires.whole_short, c.number.ensures)

pub overflow_mul-result-2 : goal.overflow_mul-result-2
overflow_mul-result-2 c = omega (arith, below_a_metre c)

pub overflow_add-result : goal.overflow_add-result
overflow_add-result c =
    omega (arith, below_a_metre c, number_below c.args.whole.now 9 c.requires.whole_digits c.requires.whole_short, c.number.ensures)

pub returns-clause-bound : goal.returns-clause-bound
returns-clause-bound c =
    omega (arith, below_a_metre c, number_below c.args.whole.now 9 c.requires.whole_digits c.requires.whole_short, c.number.ensures)
