-- Curves, points and heights are inside the frame.
use Rattle.std.proofs.Common.{◌≡◌, ◌<◌, ◌≤◌, ◌+◌, ◌*◌, ◌/◌, ◌%◌, ℕ, zero, suc, Bool, true, false, refl, nat_le, max, arith}
use Rattle.std.proofs.lemmas.Bool.{leb-false}
use Rattle.std.specs.Prelude.{if◌then◌else◌}
use Rattle.th_picture.proofs.Places.{y_above, y_below}
use Rattle.th_picture.specs.Curves.{bent}
use Rattle.th_picture.specs.Laws.{IsInsideFrame}
use Rattle.th_picture.specs.Names.{depth_of}
use Rattle.th_picture.specs.declared.names.Turn.TheVariants.{Level, Upright}

bends_below : (rest y x u : ℕ) → rest < 3 → 300 ≤ y → 900 ≤ x → x ≤ 7900 → 900 ≤ u → u ≤ 7900 → 80 ≤ bent y x u (32 * (rest + 1))
bends_below zero y x u few from a b c d = omega arith
bends_below (suc zero) y x u few from a b c d = omega arith
bends_below (suc (suc zero)) y x u few from a b c d = omega arith
bends_below (suc (suc (suc rest))) y x u few from a b c d = absurd (omega arith)

bends_above : (rest y x u : ℕ) → rest < 3 → y ≤ 3500 → 900 ≤ x → x ≤ 7900 → 900 ≤ u → u ≤ 7900 → bent y x u (32 * (rest + 1)) ≤ 3720
bends_above zero y x u few upto a b c d = omega arith
bends_above (suc zero) y x u few upto a b c d = omega arith
bends_above (suc (suc zero)) y x u few upto a b c d = omega arith
bends_above (suc (suc (suc rest))) y x u few upto a b c d = absurd (omega arith)

-- upright names have a byte at least
room_below : (longest room : ℕ) (test : Bool) → nat_le longest room ≡ test → 160 ≤ depth_of (if test then Level else Upright) longest
room_below longest room true fit = omega arith
room_below longest room false fit = omega (arith, leb-false longest room fit)

pub inside_frame : IsInsideFrame
inside_frame = record {
  right = λ k n. omega arith;
  left = λ k n. omega arith;
  below = y_below;
  above = y_above;
  names = λ count longest. room_below longest (70 / max count 1) (nat_le longest (70 / max count 1)) refl;
  bends_below = λ number y x u. bends_below (number % 3) y x u (omega arith);
  bends_above = λ number y x u. bends_above (number % 3) y x u (omega arith);
}
