-- Heights have their places on the scale.
use Rattle.std.proofs.Common.{◌≡◌, ◌<◌, ◌≤◌, ◌+◌, ◌-◌, ◌*◌, ◌/◌, ◌%◌, ℕ, Bool, true, false, refl, List, [], ◌∷◌, All, Option, Some, unwrap_or, fold, arith}
use Rattle.std.proofs.Math.Nat.{div-add-mod, lt_of_mul-lt-mul_left, mul-add, mul-le-mul_left}
use Rattle.std.proofs.lemmas.Bool.{ltb-true}
use Rattle.std.proofs.lemmas.List.Elements.{All-cons, All-nil}
use Rattle.std.specs.Prelude.{find, if◌then◌else◌}
use Rattle.th_picture.proofs.Places.{higher_up, on_from, on_upto, over_lines, under_lines}
use Rattle.th_picture.specs.Laws.{IsInOrder, IsOnScale}
use Rattle.th_picture.specs.Scales.{covers, greatest_of, high_of, higher, least_of, lower, raised, scale_between, scale_of, step_of, steps}
use Rattle.th_picture.specs.declared.drawn.DrawnPoint.{DrawnPoint}

-- the least of some heights is not above any, and the greatest not below any
least_below : (start : ℕ) (points : List DrawnPoint) → fold lower start points ≤ start
least_below start [] = omega arith
least_below start (point ∷ points) = omega (arith, least_below (lower start point) points)

least_of_all : (start : ℕ) (points : List DrawnPoint) → All (λ point. fold lower start points ≤ raised point.height) points
least_of_all start [] = All-nil _
least_of_all start (point ∷ points) =
    let least = fold lower (lower start point) points in
    let first : least ≤ raised point.height = omega (arith, least_below (lower start point) points) in
    All-cons (λ (other : DrawnPoint). least ≤ raised other.height) point points first (least_of_all (lower start point) points)

greatest_above : (start : ℕ) (points : List DrawnPoint) → start ≤ fold higher start points
greatest_above start [] = omega arith
greatest_above start (point ∷ points) = omega (arith, greatest_above (higher start point) points)

greatest_of_all : (start : ℕ) (points : List DrawnPoint) → All (λ point. raised point.height ≤ fold higher start points) points
greatest_of_all start [] = All-nil _
greatest_of_all start (point ∷ points) =
    let greatest = fold higher (higher start point) points in
    let first : raised point.height ≤ greatest = omega (arith, greatest_above (higher start point) points) in
    All-cons (λ (other : DrawnPoint). raised other.height ≤ greatest) point points first (greatest_of_all (higher start point) points)

-- the step that is found covers the spread, if the largest does
step_if : (spread step : ℕ) (rest : Option ℕ) (test : Bool) → covers spread step ≡ test → spread / 8 < unwrap_or rest 50000000000000000
    → spread / 8 < unwrap_or (if test then Some step else rest) 50000000000000000
step_if spread step rest true covered others = ltb-true (spread / 8) step covered
step_if spread step rest false covered others = others

step_covers : (spread : ℕ) (steps : List ℕ) → spread / 8 < 50000000000000000 → spread / 8 < unwrap_or (find (covers spread) steps) 50000000000000000
step_covers spread [] small = small
step_covers spread (step ∷ steps) small = step_if spread step (find (covers spread) steps) (covers spread step) refl (step_covers spread steps small)

-- and it is above zero, also if the largest does not
positive_if : (spread step : ℕ) (rest : Option ℕ) (test : Bool) → covers spread step ≡ test → 0 < unwrap_or rest 50000000000000000
    → 0 < unwrap_or (if test then Some step else rest) 50000000000000000
positive_if spread step rest true covered others = let above : spread / 8 < step = ltb-true (spread / 8) step covered in omega arith
positive_if spread step rest false covered others = others

step_is_positive : (spread : ℕ) (steps : List ℕ) → 0 < unwrap_or (find (covers spread) steps) 50000000000000000
step_is_positive spread [] = omega arith
step_is_positive spread (step ∷ steps) = positive_if spread step (find (covers spread) steps) (covers spread step) refl (step_is_positive spread steps)

between : (least greatest step at : ℕ) → 0 < step → least ≤ at → at ≤ greatest → IsOnScale (scale_between least greatest step) at
between least greatest step at some low high = record { from = omega arith; upto = omega arith }

all_on_scale : (points : List DrawnPoint) → All (λ point. IsOnScale (scale_of points) (raised point.height)) points
all_on_scale [] = All-nil _
all_on_scale (point ∷ points) =
    let least = least_of (point ∷ points) in
    let greatest = greatest_of (point ∷ points) in
    let start = raised point.height in
    let lows : All (λ other. least ≤ raised other.height) (point ∷ points) =
    All-cons (λ (other : DrawnPoint). least ≤ raised other.height) point points (least_below start points) (least_of_all start points) in
    let highs : All (λ other. raised other.height ≤ greatest) (point ∷ points) =
    All-cons (λ (other : DrawnPoint). raised other.height ≤ greatest) point points (greatest_above start points) (greatest_of_all start points) in
    λ k d within. between least greatest (step_of (greatest - least)) _ (step_is_positive (greatest - least) steps) (lows k d within) (highs k d within)

-- eight steps and one reach from the lowest line to the highest
nine_steps : (least greatest step : ℕ) → (greatest - least) / 8 < step → greatest - greatest % step + step ≤ least - least % step + 9 * step
nine_steps least greatest step covered =
    let q = least / step in
    let low : step * q + least % step ≡ least = div-add-mod least step in
    let high : step * (greatest / step) + greatest % step ≡ greatest = div-add-mod greatest step in
    let above : greatest < step * (q + 9) = omega (arith, low, mul-add step q 9) in
    let below : step * (greatest / step) < step * (q + 9) = omega (arith, above, high) in
    let few : greatest / step < q + 9 = lt_of_mul-lt-mul_left step below in
    let most : step * (greatest / step) ≤ step * (q + 8) = mul-le-mul_left step (omega (arith, few)) in
    omega (arith, most, low, high, mul-add step q 8)

reaches_top : (points : List DrawnPoint) → greatest_of points < least_of points + 400000000000000000
    → high_of (scale_of points) ≤ (scale_of points).low + 9 * (scale_of points).step
reaches_top points near =
    let spread = greatest_of points - least_of points in
    nine_steps (least_of points) (greatest_of points) (step_of spread) (step_covers spread steps (omega arith))

pub in_order : IsInOrder
in_order = record { covers = all_on_scale; reaches = reaches_top; higher = higher_up; on = on_from; upto = on_upto; over = over_lines; under = under_lines }
