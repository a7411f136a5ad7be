-- The nearest of the heights that were offered.
use Rattle.std.specs.Prelude.{ℕ, ℤ, ◌+◌, ◌&&◌, not, Bool, false, List, [], ◌∷◌, if◌then◌else◌, slice_get, take}
use Rattle.std.specs.List.{fold, prefix_len}
use Rattle.std.specs.Option.{option_map_or}
use Rattle.std.specs.Ordering.{int_eq}
use Rattle.th_meant.specs.Limits.{max_named}
pub use Rattle.th_meant.specs.Meant.{is_among}
use Rattle.th_meant.specs.Meant.{named_of}
use Rattle.th_meant.specs.Inside.Slips.{slips_of}
use Rattle.th_meant.specs.Ranges.{is_nearer, is_within}
use Rattle.th_meant.specs.declared.nearest.Sought.{Sought}
use Rattle.th_meant.specs.declared.proposed.Proposed.{Proposed}
use Rattle.th_meant.specs.declared.typed.Typed.{Typed}

-- one more is kept than is named, so that it shows when there are more
abbrev pub max_kept : ℕ
max_kept = max_named + 1

-- a height is looked for: it is not the given one, and it fits
abbrev pub is_wanted : Sought → ℤ → Bool
is_wanted sought height = not (int_eq height sought.given) && is_within sought.proposed height

-- how many of the heights that are kept are nearer
abbrev pub place_of : Proposed → ℤ → List ℤ → ℕ
place_of proposed height kept = prefix_len (λ own. is_nearer proposed own height) kept

-- a height is at a place
abbrev pub is_at : List ℤ → ℕ → ℤ → Bool
is_at kept place height = option_map_or (λ own. int_eq own height) (slice_get kept place) false

-- a height put in its place among those that are nearer and those that are not, unless it is there
abbrev pub placed : Proposed → ℤ → List ℤ → List ℤ
placed proposed height [] = height ∷ []
placed proposed height (first ∷ rest) =
    if is_nearer proposed first height then first ∷ placed proposed height rest
    else (if int_eq first height then first ∷ rest
    else height ∷ first ∷ rest)

-- the heights that are offered: the others where the given one is among them, or else its slips
abbrev pub either_of : Typed → List ℤ → List ℤ
either_of typed others = if is_among typed.given others then others else slips_of typed

-- what is kept after a height was offered, and after some were
abbrev pub with_offer : Sought → List ℤ → ℤ → List ℤ
with_offer sought kept height = if is_wanted sought height then take max_kept (placed sought.proposed height kept) else kept

abbrev pub with_offers : Sought → List ℤ → List ℤ → List ℤ
with_offers sought kept heights = fold (with_offer sought) kept heights

-- the heights that are named, computed
abbrev pub meant_in : Typed → List ℤ → Proposed → List ℤ
meant_in typed others proposed = named_of (with_offers (record { proposed = proposed; given = typed.given }) [] (either_of typed others))
