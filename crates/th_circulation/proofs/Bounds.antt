-- Bounds on how far one name is above another.
use Rattle.std.proofs.Common.{◌≡◌, ℕ, Bool, true, ℤ, ◌+ℤ◌, ◌≤ℤ◌, List}
use Rattle.std.specs.List.{AllByRecursion}

-- a bound: where it applies, one name is at least so far above another
pub record Bound : Type 0 where
  pub from : List ℕ
  pub to : List ℕ
  pub rise : ℤ
  pub applies : Bool

abbrev pub Keeps : (List ℕ → ℤ) → Bound → Type 0
Keeps x b = b.applies ≡ true → (x b.from +ℤ b.rise) ≤ℤ x b.to

abbrev pub KeepsAll : (List ℕ → ℤ) → List Bound → Type 0
KeepsAll x bounds = AllByRecursion (Keeps x) bounds
