-- Bars stay inside the strip, and show how large residuals are.
use Rattle.std.proofs.Common.{◌≡◌, ◌≤◌, ◌*◌, ◌/◌, ℕ, ℤ, Bool, true, false, List, [], ◌∷◌, All, fold, max, unsigned_abs, arith}
use Rattle.std.proofs.Math.Nat.{div-le_of_le-mul, div-mul-le_self}
use Rattle.std.proofs.lemmas.List.Elements.{All-cons, All-nil}
use Rattle.std.proofs.lemmas.Nat.{le-div}
use Rattle.std.specs.Prelude.{if◌then◌else◌}
use Rattle.th_blunders.specs.Blunders.{is_blunder}
use Rattle.th_picture.specs.StripLaws.{AreToScale}
use Rattle.th_picture.specs.Strips.{half_of, larger, offset}
use Rattle.th_picture.specs.declared.drawn.DrawnSight.{DrawnSight}

-- a size is not less after another sight, and at least that of the sight if this is within the limit
larger_if : (marked : Bool) (most size : ℕ) → most ≤ (if marked then most else max most size)
larger_if true most size = omega arith
larger_if false most size = omega arith

own_if : (marked : Bool) (most size : ℕ) → marked ≡ false → size ≤ (if marked then most else max most size)
own_if true most size unmarked = cc
own_if false most size unmarked = omega arith

largest_above : (limit : ℤ) (start : ℕ) (sights : List DrawnSight) → start ≤ fold (larger limit) start sights
largest_above limit start [] = omega arith
largest_above limit start (sight ∷ sights) =
    let next : start ≤ larger limit start sight = larger_if (is_blunder limit sight.row.residual) start (unsigned_abs sight.row.residual) in
    omega (arith, next, largest_above limit (larger limit start sight) sights)

largest_of_all : (limit : ℤ) (start bound : ℕ) (sights : List DrawnSight) → fold (larger limit) start sights ≤ bound
    → All (λ sight. is_blunder limit sight.row.residual ≡ false → unsigned_abs sight.row.residual ≤ bound) sights
largest_of_all limit start bound [] most = All-nil _
largest_of_all limit start bound (sight ∷ sights) most =
    let next = larger limit start sight in
    let upto : next ≤ bound = omega (arith, largest_above limit next sights, most) in
    let first : is_blunder limit sight.row.residual ≡ false → unsigned_abs sight.row.residual ≤ bound =
    λ unmarked. omega (arith, own_if (is_blunder limit sight.row.residual) start (unsigned_abs sight.row.residual) unmarked, upto) in
    All-cons (λ (other : DrawnSight). is_blunder limit other.row.residual ≡ false → unsigned_abs other.row.residual ≤ bound) sight sights first (largest_of_all limit next bound sights most)

all_within : (limit : ℤ) (sights : List DrawnSight)
    → All (λ sight. is_blunder limit sight.row.residual ≡ false → unsigned_abs sight.row.residual ≤ half_of limit sights) sights
all_within limit sights = largest_of_all limit 0 (half_of limit sights) sights (omega arith)

-- a bar grows with its size
longer_away : (half size other : ℕ) → size ≤ other → offset half size ≤ offset half other
longer_away half size other up =
    let grown : 275 * size / max half 1 ≤ 275 * other / max half 1 =
    le-div (275 * size / max half 1) (275 * other) (max half 1) (omega arith) (omega (arith, div-mul-le_self (275 * size) (max half 1))) in
    omega arith

shown_away : (half size : ℕ) → size ≤ half → offset half size ≤ 275
shown_away half size within =
    let part : 275 * size / max half 1 ≤ 275 = div-le_of_le-mul (max half 1) (omega (arith, within)) in
    omega (arith, part)

full_away : (half size : ℕ) → 1 ≤ half → 2 * half ≤ size → offset half size ≡ 550
full_away half size some twice =
    let long : 550 ≤ 275 * size / max half 1 = le-div 550 (275 * size) (max half 1) (omega arith) (omega (arith, twice)) in
    omega (arith, long)

pub to_scale : AreToScale
to_scale = record { within = all_within; shown = shown_away; inside = λ half size. omega arith; full = full_away; longer = longer_away }
