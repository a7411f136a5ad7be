-- Names that are written do not touch.
use Rattle.std.proofs.Common.{◌≡◌, ◌<◌, ◌≤◌, ◌+◌, ◌*◌, ◌/◌, ◌%◌, ℕ, Bool, true, false, refl, sym, nat_le, max, arith}
use Rattle.std.proofs.Math.Nat.{add-mul, div-add-mod, div-le_of_le-mul, div-mul-le_self, lt-mul-div-succ, lt_of_mul-lt-mul_left, mul-add, mul_assoc, mul-le-mul_left, mul-le-mul_right}
use Rattle.std.proofs.lemmas.Bool.{eqb-true, leb-true}
use Rattle.std.proofs.lemmas.Nat.{le-div}
use Rattle.std.specs.Prelude.{if◌then◌else◌}
use Rattle.th_picture.specs.Laws.{NamesDoNotTouch}
use Rattle.th_picture.specs.Names.{is_written, turn_of}
use Rattle.th_picture.specs.Scales.{x_of}
use Rattle.th_picture.specs.declared.names.Turn.TheVariants.{Level, Upright}

-- two multiples of a step are a step apart
step_apart : (step k other : ℕ) → k % step ≡ 0 → other % step ≡ 0 → k < other → k + step ≤ other
step_apart step k other first second less =
    let own : step * (k / step) ≡ k = omega (arith, div-add-mod k step, first) in
    let later : step * (other / step) ≡ other = omega (arith, div-add-mod other step, second) in
    let before : step * (k / step) < step * (other / step) = omega (arith, own, later, less) in
    let count : k / step + 1 ≤ other / step = omega (arith, lt_of_mul-lt-mul_left step before) in
    let more : step * (k / step + 1) ≤ step * (other / step) = mul-le-mul_left step count in
    omega (arith, more, mul-add step (k / step) 1, own, later)

-- a quotient grows by as much as its dividend grows in divisors
quotient_grows : (less more by divisor : ℕ) → 0 < divisor → less + by * divisor ≤ more → less / divisor + by ≤ more / divisor
quotient_grows less more by divisor some grown =
    le-div (less / divisor + by) more divisor some (omega (arith, add-mul (less / divisor) by divisor, div-mul-le_self less divisor, grown))

-- how far strips are apart
strips_apart : (n k other by : ℕ) → 0 < n → other < n → 7000 * (2 * k + 1) + by * max (2 * n) 1 ≤ 7000 * (2 * other + 1) → x_of k n + by ≤ x_of other n
strips_apart n k other by some within wide =
    let grown : 7000 * (2 * k + 1) / max (2 * n) 1 + by ≤ 7000 * (2 * other + 1) / max (2 * n) 1 = quotient_grows (7000 * (2 * k + 1)) (7000 * (2 * other + 1)) by (max (2 * n) 1) (omega arith) wide in
    let last : 7000 * (2 * other + 1) / max (2 * n) 1 ≤ 7000 = div-le_of_le-mul (max (2 * n) 1) (omega (arith, within)) in
    omega (arith, grown, last)

-- a share of the width for each of twice as many fits
share_fits : (many n : ℕ) → 1 ≤ many → 3500 / many * n ≤ 7000 * max (n / many) 1
share_fits many n some =
    let step = max (n / many) 1 in
    let part = 3500 / many in
    let below : n < many * (n / many + 1) = lt-mul-div-succ n some in
    let twice : many * (n / many + 1) ≤ many * (2 * step) = mul-le-mul_left many (omega arith) in
    let count : n ≤ many * (2 * step) = omega (arith, below, twice) in
    let more : part * n ≤ part * (many * (2 * step)) = mul-le-mul_left part count in
    let whole : part * many ≤ 3500 = div-mul-le_self 3500 many in
    let most : part * many * (2 * step) ≤ 3500 * (2 * step) = mul-le-mul_right (2 * step) whole in
    let same : part * (many * (2 * step)) ≡ part * many * (2 * step) = sym (mul_assoc part many (2 * step)) in
    omega (arith, more, most, same)

upright_apart : (many n k other : ℕ) → 1 ≤ many → k < other → other < n → is_written n many k ≡ true → is_written n many other ≡ true
    → x_of k n + 3500 / many ≤ x_of other n
upright_apart many n k other some less within first second =
    let step = max (n / many) 1 in
    let part = 3500 / many in
    let apart : k + step ≤ other = step_apart step k other (eqb-true (k % step) 0 first) (eqb-true (other % step) 0 second) less in
    let double : max (2 * n) 1 ≡ 2 * n = omega arith in
    let wide : part * max (2 * n) 1 ≤ 14000 * step = rw double (omega (arith, share_fits many n some)) in
    strips_apart n k other part (omega arith) within (omega (arith, apart, wide))

-- level names have room
fits : (longest room : ℕ) (test : Bool) → nat_le longest room ≡ test → (if test then Level else Upright) ≡ Level → longest ≤ room
fits longest room true fit level = leb-true longest room fit
fits longest room false fit level = cc

level_apart : (n k other longest : ℕ) → k < other → other < n → turn_of n longest ≡ Level → x_of k n + 90 * longest ≤ x_of other n
level_apart n k other longest less within level =
    let fit : longest ≤ 70 / max n 1 = fits longest (70 / max n 1) (nat_le longest (70 / max n 1)) refl level in
    let share : longest * max n 1 ≤ 70 / max n 1 * max n 1 = mul-le-mul_right (max n 1) fit in
    let room : longest * max n 1 ≤ 70 = omega (arith, share, div-mul-le_self 70 (max n 1)) in
    let own : max n 1 ≡ n = omega arith in
    let double : max (2 * n) 1 ≡ 2 * n = omega arith in
    let narrow : longest * n ≤ 70 = rw own at room in
    let wide : 90 * longest * max (2 * n) 1 ≤ 14000 = rw double (omega (arith, narrow)) in
    strips_apart n k other (90 * longest) (omega arith) within (omega (arith, wide))

pub names_apart : NamesDoNotTouch
names_apart = record { upright = upright_apart; level = level_apart }
