-- Lists that are gone over together, by their places.
use Rattle.std.proofs.Common.{◌≡◌, ◌<◌, ℕ, ℤ, pos, List, length, get_or, sym, ap, ◌∙◌, arith}
use Rattle.std.specs.List.{zip}
use Rattle.std.proofs.lemmas.List.{get_or-map, length-map}
use Rattle.std.proofs.lemmas.Slice.Zip.{get_or-zip, length-zip}
use Rattle.th_observations.specs.Observed.{Observed}
use Rattle.th_checker.specs.Inside.Tests.{residual_at, residuals_at}

-- as many pairs as elements
pub length_zip : {A B : Type 0} (xs : List A) (ys : List B) → length ys ≡ length xs → length (zip xs ys) ≡ length ys
length_zip xs ys same = omega (arith, length-zip xs ys)

-- a weight and a flow
pub pair_at : (weights : List ℕ) (flows : List ℤ) (i : ℕ) → length flows ≡ length weights → i < length flows → get_or (zip weights flows) i (0, pos 0) ≡ (get_or weights i 0, get_or flows i (pos 0))
pair_at weights flows i same within = get_or-zip weights flows i (0, pos 0) (omega arith) within

-- a weight, a residual and a flow
pub length_triples : (weights : List ℕ) (residuals flows : List ℤ) → length flows ≡ length weights → length residuals ≡ length weights → length (zip weights (zip residuals flows)) ≡ length flows
length_triples weights residuals flows a b = omega (arith, length-zip weights (zip residuals flows), length-zip residuals flows)

pub triple_at : (weights : List ℕ) (residuals flows : List ℤ) (i : ℕ) → length flows ≡ length weights → length residuals ≡ length weights → i < length flows
    → get_or (zip weights (zip residuals flows)) i (0, (pos 0, pos 0)) ≡ (get_or weights i 0, (get_or residuals i (pos 0), get_or flows i (pos 0)))
triple_at weights residuals flows i a b within =
    get_or-zip weights (zip residuals flows) i (0, (pos 0, pos 0)) (omega arith) (omega (arith, length-zip residuals flows))
    ∙ ap (λ (p : ℤ × ℤ). (get_or weights i 0, p)) (get_or-zip residuals flows i (pos 0, pos 0) (omega arith) within)

-- a residual for each observation
pub length_residuals : (observations : List Observed) (ends : List (ℕ × ℕ)) (heights : List ℤ) → length ends ≡ length observations → length (residuals_at (zip observations ends) heights) ≡ length observations
length_residuals observations ends heights same = omega (arith, length-map (zip observations ends) (residual_at heights), length-zip observations ends)

-- the residual at a place
pub residual_here : (observations : List Observed) (ends : List (ℕ × ℕ)) (heights : List ℤ) (i : ℕ) (o : Observed) → length ends ≡ length observations → i < length observations → o ≡ get_or observations i o
    → get_or (residuals_at (zip observations ends) heights) i (pos 0) ≡ residual_at heights (o, get_or ends i (0, 0))
residual_here observations ends heights i o same within is =
    get_or-map (residual_at heights) (zip observations ends) i (o, (0, 0)) (pos 0) (omega (arith, length-zip observations ends))
    ∙ ap (residual_at heights) (get_or-zip observations ends i (o, (0, 0)) within (omega arith))
    ∙ ap (λ (own : Observed). residual_at heights (own, get_or ends i (0, 0))) (sym is)
