-- Gaps in order, and the name at a place.
use Rattle.std.proofs.Common.{◌≡◌, ◌<◌, ◌∙◌, ℕ, ℤ, ◌≤ℤ◌, ◌<ℤ◌, true, false, List, Some, get_or, length, sym, ap, arith}
use Rattle.std.specs.Prelude.{slice_get}
use Rattle.std.proofs.lemmas.Option.{slice_get-get_or}
use lib.Signed.{lt_z}

pub below_next : (gap before next : ℤ) → gap ≤ℤ before → lt_z before next ≡ true → gap <ℤ next
below_next gap before next within above = grind (arith, within, above)

pub weaken : (gap next : ℤ) → gap <ℤ next → gap ≤ℤ next
weaken gap next below = grind (arith, below)

pub equal : (gap : ℤ) → gap ≤ℤ gap
equal gap = grind arith

pub not_above : (before next : ℤ) → lt_z before next ≡ false → next ≤ℤ before
not_above before next none = grind (arith, none)

-- the name at a place of some names
pub named : (names points : List (List ℕ)) (place : ℕ) (name : List ℕ) → names ≡ points → place < length names → name ≡ get_or names place name → slice_get points place ≡ Some name
named names points place name same within is =
    ap (λ own. slice_get own place) (sym same) ∙ slice_get-get_or names place name within ∙ ap Some (sym is)
