-- The residuals of observations, from the heights at the places of their ends.
use Rattle.std.proofs.Common.{◌≡◌, ℕ, ℤ, ◌+◌, ◌<◌, ◌-ℤ◌, pos, List, [], ◌∷◌, ◌++◌, get_or, length, map, take, sym, ap, ◌∙◌}
use Rattle.std.proofs.lemmas.List.{get_or-map, map-append, take_more}
use Rattle.th_observations.specs.Observed.{Observed}
use Rattle.th_points.specs.Ends.{ends_in}
use Rattle.th_network.specs.Heights.{heights_at, residual}
use Rattle.th_blunders.specs.Residuals.{residuals}

-- the heights at the places of its ends leave an observation this residual
pub residual_there : (observations : List Observed) (names : List (List ℕ)) (heights : List ℤ) (ends : List (ℕ × ℕ)) (i : ℕ) (o : Observed) → i < length observations → o ≡ get_or observations i o → ends ≡ map (ends_in names) observations
    → o.difference -ℤ (get_or heights (get_or ends i (0, 0)).1 (pos 0) -ℤ get_or heights (get_or ends i (0, 0)).0 (pos 0)) ≡ residual o (heights_at names heights)
residual_there observations names heights ends i o within at placed =
    let found : get_or ends i (0, 0) ≡ ends_in names o = ap (λ (es : List (ℕ × ℕ)). get_or es i (0, 0)) placed ∙ get_or-map (ends_in names) observations i o (0, 0) within ∙ ap (ends_in names) (sym at) in
    ap (λ (pair : ℕ × ℕ). o.difference -ℤ (get_or heights pair.1 (pos 0) -ℤ get_or heights pair.0 (pos 0))) found

-- the residuals of the observations before a place, and of the one that stands there
pub residuals-more : (observations : List Observed) (heights : List ℕ → ℤ) (i : ℕ) (o : Observed) → i < length observations → o ≡ get_or observations i o → residuals (take (i + 1) observations) heights ≡ residuals (take i observations) heights ++ residual o heights ∷ []
residuals-more observations heights i o within at =
    ap (λ os. residuals os heights) (take_more observations i o within ∙ ap (λ y. take i observations ++ y ∷ []) (sym at))
    ∙ map-append (λ o. residual o heights) (take i observations) (o ∷ [])
