-- Whether one of several things passes a test, one thing further.
use Rattle.std.proofs.Common.{◌≡◌, ◌<◌, ◌+◌, ℕ, Bool, true, false, ◌||◌, List, [], ◌∷◌, ◌++◌, get_or, length, map, take, refl, sym, ap, ◌∙◌}
use Rattle.std.specs.List.{list_any}
use Rattle.std.proofs.lemmas.List.{map_push, take_more}
use Rattle.std.proofs.lemmas.List.Folds.{list_any-append}

pub or_false : (is : Bool) → (is || false) ≡ is
or_false true = refl
or_false false = refl

-- one more thing
pub any-more : {X : Type 0} (test : X → Bool) (xs : List X) (x : X) → list_any test (xs ++ x ∷ []) ≡ (list_any test xs || test x)
any-more test xs x = list_any-append test xs (x ∷ []) ∙ ap (λ own. list_any test xs || own) (or_false (test x))

-- the thing at a place, after those before it
pub any-at : {X Y : Type 0} (test : Y → Bool) (see : X → Y) (xs : List X) (index : ℕ) (x : X) → index < length xs → x ≡ get_or xs index x
    → list_any test (map see (take (index + 1) xs)) ≡ (list_any test (map see (take index xs)) || test (see x))
any-at test see xs index x within is =
    ap (λ front. list_any test (map see front)) (take_more xs index x within ∙ ap (λ last. take index xs ++ last ∷ []) (sym is))
    ∙ ap (list_any test) (map_push see (take index xs) x)
    ∙ any-more test (map see (take index xs)) (see x)
