-- Numbered lists, one element longer.
use Rattle.std.proofs.Common.{◌≡◌, ℕ, ◌+◌, ◌<◌, List, [], ◌∷◌, ◌++◌, Option, length, get_or, take, ap, ◌∙◌, arith, sym}
use Rattle.std.specs.List.{cons_option, enumerate_from, filter_map}
use Rattle.std.proofs.lemmas.List.{length-take-le, take_more}
use Rattle.std.proofs.lemmas.List.Elements.{filter_map-append}

pub enumerate_from-push : {X : Type 0} → (n : ℕ) (xs : List X) (x : X) → enumerate_from n (xs ++ x ∷ []) ≡ enumerate_from n xs ++ (n + length xs, x) ∷ []
enumerate_from-push n [] x = ap (λ k. (k, x) ∷ []) (omega arith)
enumerate_from-push n (y ∷ ys) x =
    ap (λ rest. (n, y) ∷ rest) (enumerate_from-push (n + 1) ys x ∙ ap (λ k. enumerate_from (n + 1) ys ++ (k, x) ∷ []) (omega arith))

-- the elements before a place and the one that stands there, numbered from 1
pub enumerate_from-more : {X : Type 0} → (xs : List X) (i : ℕ) (x : X) → i < length xs → x ≡ get_or xs i x → enumerate_from 1 (take (i + 1) xs) ≡ enumerate_from 1 (take i xs) ++ (i + 1, x) ∷ []
enumerate_from-more xs i x within at =
    ap (enumerate_from 1) (take_more xs i x within ∙ ap (λ y. take i xs ++ y ∷ []) (sym at))
    ∙ enumerate_from-push 1 (take i xs) x
    ∙ ap (λ k. enumerate_from 1 (take i xs) ++ (k, x) ∷ []) (omega (arith, length-take-le i xs (omega arith)))

-- what is chosen of them
pub filter_map-more : {X Y : Type 0} → (choose : ℕ × X → Option Y) (xs : List X) (i : ℕ) (x : X) → i < length xs → x ≡ get_or xs i x → filter_map choose (enumerate_from 1 (take (i + 1) xs)) ≡ filter_map choose (enumerate_from 1 (take i xs)) ++ cons_option (choose (i + 1, x)) []
filter_map-more choose xs i x within at =
    ap (filter_map choose) (enumerate_from-more xs i x within at) ∙ filter_map-append choose (enumerate_from 1 (take i xs)) ((i + 1, x) ∷ [])

-- what is chosen where it is known what the last one gives
pub filter_map-found : {X Y : Type 0} → (choose : ℕ × X → Option Y) (xs : List X) (i : ℕ) (x : X) (found : Option Y) → i < length xs → x ≡ get_or xs i x → choose (i + 1, x) ≡ found → filter_map choose (enumerate_from 1 (take (i + 1) xs)) ≡ filter_map choose (enumerate_from 1 (take i xs)) ++ cons_option found []
filter_map-found choose xs i x found within at is =
    filter_map-more choose xs i x within at ∙ ap (λ y. filter_map choose (enumerate_from 1 (take i xs)) ++ cons_option y []) is
