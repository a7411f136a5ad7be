-- The height that stands at the place of a name, as 64 bits write it.
use Rattle.std.proofs.Common.{◌≡◌, ◌<◌, ℕ, ℤ, pos, All, List, bytes_eq, length, get_or, refl, sym, ap, ◌∙◌, arith, to_z, of_z, unsigned_abs, w64}
use Rattle.std.specs.Cmp.Lexicographic.{nat_list_eq_equiv}
use Rattle.std.specs.List.{IsDistinct}
use Rattle.std.proofs.lemmas.Int.{fits_signed_from_abs, to_z-of_z}
use Rattle.std.proofs.lemmas.List.Sums.{position_or_len_is}
use Rattle.std.proofs.lemmas.Map.Keys.{apart_from_distinct}
use Rattle.std.proofs.lemmas.Slice.Eq.{bytes_eq-Decides}
use Rattle.th_network.specs.Heights.{heights_at}
use Rattle.th_network.specs.Limits.{height_limit}
use Rattle.th_points.specs.Places.{place_of}
use Rattle.th_blunders.specs.Residuals.{residual_limit}

-- the height at the place of a name, where each name is listed once
pub heights_at-listed : (names : List (List ℕ)) (heights : List ℤ) (k : ℕ) (name : List ℕ) → IsDistinct bytes_eq names → k < length names → name ≡ get_or names k name → heights_at names heights name ≡ get_or heights k (pos 0)
heights_at-listed names heights k name distinct within is = ap (λ k. get_or heights k (pos 0)) (ap (place_of names) is ∙ placed)
  where
    placed : place_of names (get_or names k name) ≡ k
    placed = position_or_len_is (bytes_eq (get_or names k name)) names k name (omega arith)
        (λ j before. nat_list_eq_equiv.symm (get_or names k name) (get_or names j name) ∙ apart_from_distinct bytes_eq names j k name distinct before within)
        (λ _. (bytes_eq-Decides (get_or names k name) (get_or names k name)).1 refl)

-- a height in range is the number that its 64 bits write
pub same_units : (height : ℤ) → unsigned_abs height < residual_limit → to_z w64 (of_z w64 height) ≡ height
same_units height small = to_z-of_z w64 height (fits_signed_from_abs w64 height (omega arith))

-- the height that is looked up at the place of a name
pub height_there : (names : List (List ℕ)) (heights : List ℤ) (k : ℕ) (name : List ℕ) → IsDistinct bytes_eq names → All (λ height. unsigned_abs height < height_limit) heights → length heights ≡ length names → k < length names → name ≡ get_or names k name
    → to_z w64 (of_z w64 (get_or heights k (pos 0))) ≡ heights_at names heights name
height_there names heights k name distinct in_range each within is =
    let small : unsigned_abs (get_or heights k (pos 0)) < height_limit = in_range k (pos 0) (omega arith) in
    same_units (get_or heights k (pos 0)) (omega arith) ∙ sym (heights_at-listed names heights k name distinct within is)
