-- A height put at a place among those that are kept, and what is dropped.
use Rattle.std.proofs.Common.{◌≡◌, ◌<◌, ◌≤◌, ℕ, zero, suc, ℤ, List, [], ◌∷◌, Some, length, take, refl, sym, ap, ◌∙◌, arith}
use Rattle.std.specs.List.{insert}
use Rattle.std.specs.Prelude.{slice_get}
use Rattle.std.proofs.lemmas.List.{take_all}
use Rattle.std.proofs.lemmas.List.Edits.{length-insert}
use Rattle.th_meant.specs.Inside.Nearest.{place_of, placed}
use Rattle.th_meant.specs.declared.proposed.Proposed.{Proposed}
use Rattle.th_meant.proofs.PlacedLemmas.{put_in_place, there_in_place}

-- with room
pub put_with_room : (kept : List ℤ) (place : ℕ) (height : ℤ) → place ≤ length kept → length kept < 4 → take 4 (insert kept place height) ≡ insert kept place height
put_with_room kept place height within room = take_all 4 (insert kept place height) (omega (arith, length-insert kept place height within))

-- the last one is dropped before
dropped : (m place : ℕ) (kept : List ℤ) (height : ℤ) → place ≤ m → take (suc m) (insert kept place height) ≡ insert (take m kept) place height
dropped m zero kept height within = refl
dropped zero (suc place) kept height within = absurd (omega (arith, within))
dropped (suc m) (suc place) [] height within = refl
dropped (suc m) (suc place) (own ∷ kept) height within = ap (λ rest. own ∷ rest) (dropped m place kept height (omega (arith, within)))

pub put_for_the_last : (kept : List ℤ) (place : ℕ) (height : ℤ) → place ≤ 3 → take 4 (insert kept place height) ≡ insert (take 3 kept) place height
put_for_the_last kept place height within = dropped 3 place kept height within

-- ---- in its place
pub added_there : (proposed : Proposed) (height : ℤ) (kept : List ℤ) (place : ℕ) → place ≡ place_of proposed height kept → length kept ≤ 4 → slice_get kept place ≡ Some height → kept ≡ take 4 (placed proposed height kept)
added_there proposed height kept place is few there =
    sym (ap (take 4) (there_in_place proposed height kept (sym (ap (slice_get kept) is) ∙ there)) ∙ take_all 4 kept few)

pub added_new : (proposed : Proposed) (height : ℤ) (kept new : List ℤ) (place : ℕ) → place ≡ place_of proposed height kept → (slice_get kept place ≡ Some height → ⊥) → new ≡ take 4 (insert kept place height) → new ≡ take 4 (placed proposed height kept)
added_new proposed height kept new place is another put =
    put
    ∙ ap (λ own. take 4 (insert kept own height)) is
    ∙ ap (take 4) (sym (put_in_place proposed height kept (λ there. another (ap (slice_get kept) is ∙ there))))
