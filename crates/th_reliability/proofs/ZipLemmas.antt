-- One more of what two lists share.
use Rattle.std.proofs.Common.{◌≡◌, ℕ, ◌<◌, ◌+◌, List, [], ◌∷◌, ◌++◌, ap, get_or, length, take, sym, subst, ◌∙◌}
use Rattle.std.specs.List.{AllZip}
use Rattle.std.proofs.lemmas.List.{take_more}

pub zip_more : {X Y : Type 0} (R : X → Y → Type 0) (xs : List X) (ys ys' : List Y) (x : X) (y : Y) → AllZip R xs ys → R x y → ys' ≡ ys ++ y ∷ [] → AllZip R (xs ++ x ∷ []) ys'
zip_more {X = X} {Y = Y} R xs ys ys' x y h one pushed = subst (AllZip R (xs ++ x ∷ [])) (sym pushed) (by xs ys h)
  where
    by : (xs : List X) (ys : List Y) → AllZip R xs ys → AllZip R (xs ++ x ∷ []) (ys ++ y ∷ [])
    by [] [] h = (one, h)
    by [] (b ∷ ys) h = absurd h
    by (a ∷ xs) [] h = absurd h
    by (a ∷ xs) (b ∷ ys) h = (h.0, by xs ys h.1)

-- one more of the first ones of a list
pub zip_next : {X Y : Type 0} (R : X → Y → Type 0) (xs : List X) (ys ys' : List Y) (i : ℕ) (x : X) (y : Y) → i < length xs → x ≡ get_or xs i x → ys' ≡ ys ++ y ∷ [] → AllZip R (take i xs) ys → R x y → AllZip R (take (i + 1) xs) ys'
zip_next R xs ys ys' i x y within here pushed h one =
    subst (λ own. AllZip R own ys') (sym (take_more xs i x within ∙ ap (λ v. take i xs ++ v ∷ []) (sym here))) (zip_more R (take i xs) ys ys' x y h one pushed)
