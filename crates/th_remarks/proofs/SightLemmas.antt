-- Weighted sizes, one sight further, and by place.
use Rattle.std.proofs.Common.{◌≡◌, ◌<◌, ◌≤◌, ◌+◌, ◌*◌, ◌/◌, ◌%◌, inl, inr, ◌++◌, ◌∷◌, [], ◌∙◌, ℕ, ℤ, pos, Bool, cond, true, false, List, All, get_or, length, map, take, unsigned_abs, of_z, to_z, w64, refl, ap, sym, arith}
use Rattle.std.specs.Prelude.{nat_lt}
use Rattle.std.specs.List.{filter, zip}
use Rattle.std.proofs.lemmas.Int.{fits_signed_from_abs, to_z-of_z}
use Rattle.std.proofs.lemmas.List.{append-nil, map_push, take_more}
use Rattle.std.proofs.lemmas.List.Elements.{All-get_or, All-push, All-same, filter-append}
use Rattle.std.proofs.lemmas.Bool.{cases_lt}
use Rattle.std.proofs.lemmas.Nat.{div-add-mod', mul-le}
use Rattle.std.proofs.lemmas.Slice.Zip.{get_or-zip, length-zip}
use Rattle.th_blunders.specs.Blunders.{is_blunder}
use Rattle.th_blunders.specs.Residuals.{residual_limit}
use Rattle.th_remarks.specs.Outliers.{size_at, sight_at, sizes_of, weighted_size}

-- the sizes that are not 0, one sight further
pub sizes_more : (sights : List (ℕ × ℤ)) (i : ℕ) → i < length sights
    → sizes_of (take (i + 1) sights) ≡ sizes_of (take i sights) ++ cond (nat_lt 0 (size_at sights i)) (size_at sights i ∷ []) []
sizes_more sights i within =
    ap sizes_of (take_more sights i (0, pos 0) within)
    ∙ ap (filter (λ size. nat_lt 0 size)) (map_push weighted_size (take i sights) (sight_at sights i))
    ∙ filter-append (λ size. nat_lt 0 size) (map weighted_size (take i sights)) (size_at sights i ∷ [])

-- the weighted size at a place of two lists
pub size_there : (weights : List ℕ) (residuals : List ℤ) (place : ℕ) → place < length weights → place < length residuals
    → size_at (zip weights residuals) place ≡ get_or weights place 0 * unsigned_abs (get_or residuals place (pos 0))
size_there weights residuals place light within = ap weighted_size (get_or-zip weights residuals place (0, pos 0) light within)

-- whether the limit marks the sight at a place
pub marked_there : (given : ℤ) (weights : List ℕ) (residuals : List ℤ) (place : ℕ) → place < length weights → place < length residuals
    → is_blunder given (sight_at (zip weights residuals) place).1 ≡ is_blunder given (get_or residuals place (pos 0))
marked_there given weights residuals place light within = ap (λ sight. is_blunder given sight.1) (get_or-zip weights residuals place (0, pos 0) light within)

-- a residual as 64 bits keep it
pub plain : (residuals : List ℤ) (place : ℕ) → All (λ residual. unsigned_abs residual < residual_limit) residuals → place < length residuals
    → to_z w64 (of_z w64 (get_or residuals place (pos 0))) ≡ get_or residuals place (pos 0)
plain residuals place small within =
    let bound : unsigned_abs (get_or residuals place (pos 0)) < residual_limit = All-get_or (λ residual. unsigned_abs residual < residual_limit) residuals place (pos 0) within small in
    to_z-of_z w64 (get_or residuals place (pos 0)) (fits_signed_from_abs w64 (get_or residuals place (pos 0)) (omega (arith, bound)))

-- what holds of each number still does after one that passes a test is added
pub all_added : (P : ℕ → Type 0) (xs ys : List ℕ) (passes : Bool) (x : ℕ) → ys ≡ xs ++ cond passes (x ∷ []) [] → All P xs → (passes ≡ true → P x) → All P ys
all_added P xs ys true x is all here = All-same P ys (xs ++ x ∷ []) is (All-push P xs x all (here refl))
all_added P xs ys false x is all here = All-same P ys xs (is ∙ append-nil xs) all

-- the weight and the residual at a place of two lists
pub sight_there : (weights : List ℕ) (residuals : List ℤ) (place : ℕ) → place < length weights → place < length residuals
    → sight_at (zip weights residuals) place ≡ (get_or weights place 0, get_or residuals place (pos 0))
sight_there weights residuals place light within = get_or-zip weights residuals place (0, pos 0) light within

-- a limit that is a number by so many times a weight marks a size whose product with the weight is larger
pub marks_it : (far weight size given : ℕ) → far < weight * size → given ≤ far / (100 * weight) → 100 * given < size
marks_it far weight size given beyond small = elim (cases_lt (100 * given) size) [
  | inl below ↦ below
  | inr above ↦
      let more : weight * size ≤ weight * (100 * given) = mul-le weight size weight (100 * given) (omega arith) above in
      let less : given * (100 * weight) ≤ far / (100 * weight) * (100 * weight) = mul-le given (100 * weight) (far / (100 * weight)) (100 * weight) small (omega arith) in
      let whole : far / (100 * weight) * (100 * weight) + far % (100 * weight) ≡ far = div-add-mod' far (100 * weight) in
      let turned : weight * (100 * given) ≡ given * (100 * weight) = grind arith in
      absurd (omega (arith, beyond, more, less, whole, turned))
]
