-- Numbers of the machine that are compared.
use Rattle.std.proofs.Common.{◌≡◌, ◌<◌, ◌≤◌, ◌*◌, ◌^◌, ◌==◌, ℕ, ℤ, pos, ◌-ℤ◌, ◌*ℤ◌, Bool, true, false, w64, to_z, of_z, Option, Some, None, IfSome, unsigned_abs, refl, sym, ap, ◌∙◌, arith, eq-eqb, mul-le-mul, All, List, length, get_or}
use Rattle.std.specs.Int.{w128}
use Rattle.std.specs.Option.{unwrap_or}
use Rattle.std.specs.Ordering.{int_eq}
use Rattle.std.proofs.lemmas.Bool.{eqb-true}
use Rattle.std.proofs.lemmas.Bool.Decides.{Decides-int_eq}
use Rattle.std.proofs.lemmas.List.Elements.{All-get_or}
use Rattle.std.proofs.lemmas.Int.{fits_signed_from_abs, ints, to_z-of_z, unsigned_abs-mul}
use Rattle.th_observations.specs.Observed.{largest_difference}
use Rattle.th_certificate.specs.Certified.{AreFlows, flow_limit}
use Rattle.th_network.specs.Limits.{height_limit}
use Rattle.th_certificate.specs.Limits.{most_residual}

-- two of them are the same where they stand for the same
pub same_z : (x y : ℤ) → unsigned_abs x < 2 ^ 63 → unsigned_abs y < 2 ^ 63 → of_z w64 x ≡ of_z w64 y → x ≡ y
same_z x y a b same = sym (to_z-of_z w64 x (fits_signed_from_abs w64 x a)) ∙ ap (to_z w64) same ∙ to_z-of_z w64 y (fits_signed_from_abs w64 y b)

pub differ_z : (x y : ℤ) → (of_z w64 x ≡ of_z w64 y → ⊥) → int_eq x y ≡ false
differ_z x y differ = by (int_eq x y) (Decides-int_eq x y).0
  where
    by : (same : Bool) → (same ≡ true → x ≡ y) → same ≡ false
    by true equal = absurd (differ (ap (of_z w64) (equal refl)))
    by false equal = refl

pub equal_z : (x y : ℤ) → x ≡ y → int_eq x y ≡ true
equal_z x y same = (Decides-int_eq x y).1 same

-- the same of numbers of 128 bits
pub test_z : (x y : ℤ) → unsigned_abs x < 2 ^ 127 → unsigned_abs y < 2 ^ 127 → (of_z w128 x == of_z w128 y) ≡ int_eq x y
test_z x y a b = by (int_eq x y) refl (of_z w128 x == of_z w128 y) refl
  where
    back : of_z w128 x ≡ of_z w128 y → x ≡ y
    back same = sym (to_z-of_z w128 x (fits_signed_from_abs w128 x a)) ∙ ap (to_z w128) same ∙ to_z-of_z w128 y (fits_signed_from_abs w128 y b)

    by : (same : Bool) → int_eq x y ≡ same → (test : Bool) → (of_z w128 x == of_z w128 y) ≡ test → test ≡ same
    by true equal test is = sym is ∙ eq-eqb (of_z w128 x) (of_z w128 y) (ap (of_z w128) ((Decides-int_eq x y).0 equal))
    by false equal false is = refl
    by false equal true is = sym ((Decides-int_eq x y).1 (back (eqb-true (of_z w128 x) (of_z w128 y) is))) ∙ equal

-- a flow times a residual is far below 2^127
pub product_small : (flow residual : ℤ) → unsigned_abs flow < flow_limit → unsigned_abs residual ≤ most_residual → unsigned_abs (flow *ℤ residual) < 2 ^ 127
product_small flow residual a b =
    let first : unsigned_abs flow ≤ flow_limit = omega arith in
    omega (arith, unsigned_abs-mul flow residual, mul-le-mul first b)

-- so is a weight times the size of one
pub whole_small : (weight size : ℕ) → weight < 2 ^ 32 → size ≤ most_residual → weight * size < 2 ^ 127
whole_small weight size a b =
    let first : weight ≤ 2 ^ 32 = omega arith in
    omega (arith, mul-le-mul first b)

-- a height that is stated, or zero, is in its range
pub small_or_zero : (found : Option ℤ) → IfSome found (λ height. unsigned_abs height < height_limit) → unsigned_abs (unwrap_or found (pos 0)) < height_limit
small_or_zero None h = omega arith
small_or_zero (Some height) h = h

-- a number of a list of numbers in their range
pub plain_flow : (flows : List ℤ) (i : ℕ) → AreFlows flows → i < length flows → to_z w64 (of_z w64 (get_or flows i (pos 0))) ≡ get_or flows i (pos 0)
plain_flow flows i each within =
    let small = All-get_or (λ x. unsigned_abs x < flow_limit) flows i (pos 0) within each in
    to_z-of_z w64 (get_or flows i (pos 0)) (fits_signed_from_abs w64 (get_or flows i (pos 0)) (omega (arith, small)))

-- what the machine makes of a difference between two heights in their range
pub residual_plain : (d t s : ℤ) → unsigned_abs d ≤ largest_difference → unsigned_abs t < height_limit → unsigned_abs s < height_limit
    → to_z w64 (of_z w64 (to_z w64 (of_z w64 d) -ℤ to_z w64 (of_z w64 (to_z w64 (of_z w64 t) -ℤ to_z w64 (of_z w64 s))))) ≡ d -ℤ (t -ℤ s)
residual_plain d t s a b e =
    let own : to_z w64 (of_z w64 d) ≡ d = to_z-of_z w64 d (fits_signed_from_abs w64 d (omega (arith, a))) in
    let to : to_z w64 (of_z w64 t) ≡ t = to_z-of_z w64 t (fits_signed_from_abs w64 t (omega (arith, b))) in
    let from : to_z w64 (of_z w64 s) ≡ s = to_z-of_z w64 s (fits_signed_from_abs w64 s (omega (arith, e))) in
    let rise : to_z w64 (of_z w64 (t -ℤ s)) ≡ t -ℤ s = to_z-of_z w64 (t -ℤ s) (fits_signed_from_abs w64 (t -ℤ s) (omega (arith, ints, b, e))) in
    let left : to_z w64 (of_z w64 (d -ℤ (t -ℤ s))) ≡ d -ℤ (t -ℤ s) = to_z-of_z w64 (d -ℤ (t -ℤ s)) (fits_signed_from_abs w64 (d -ℤ (t -ℤ s)) (omega (arith, ints, a, b, e))) in
    ap (λ z. to_z w64 (of_z w64 (z -ℤ to_z w64 (of_z w64 (to_z w64 (of_z w64 t) -ℤ to_z w64 (of_z w64 s)))))) own
    ∙ ap (λ z. to_z w64 (of_z w64 (d -ℤ to_z w64 (of_z w64 (z -ℤ to_z w64 (of_z w64 s)))))) to
    ∙ ap (λ z. to_z w64 (of_z w64 (d -ℤ to_z w64 (of_z w64 (t -ℤ z))))) from
    ∙ ap (λ z. to_z w64 (of_z w64 (d -ℤ z))) rise
    ∙ left

pub residual_small : (d t s : ℤ) → unsigned_abs d ≤ largest_difference → unsigned_abs t < height_limit → unsigned_abs s < height_limit → unsigned_abs (d -ℤ (t -ℤ s)) ≤ most_residual
residual_small d t s a b e = omega (arith, ints, a, b, e)
