-- One more of what is mapped.
use Rattle.std.proofs.Common.{◌≡◌, ◌∙◌, ◌<◌, ◌+◌, ℕ, List, [], ◌∷◌, ◌++◌, Option, Some, None, ap, get_or, length, map, option_to_list, refl, sym, take}
use Rattle.std.proofs.lemmas.List.{map_more, take_more}
use Rattle.std.proofs.lemmas.List.Elements.{filter_map-append}
use Rattle.std.specs.List.{cons_option, filter_map}

pub map_next : {X Y : Type 0} (f : X → Y) (xs : List X) (ys ys' : List Y) (i : ℕ) (x : X) (y : Y) → i < length xs → x ≡ get_or xs i x → y ≡ f x → ys' ≡ ys ++ y ∷ [] → ys ≡ map f (take i xs) → ys' ≡ map f (take (i + 1) xs)
map_next f xs ys ys' i x y within here is pushed before =
    pushed ∙ ap (λ own. own ++ y ∷ []) before ∙ ap (λ v. map f (take i xs) ++ v ∷ []) (is ∙ ap f here) ∙ sym (map_more f xs i x within)

-- one more of what is found, where something is
pub found_next : {X Y : Type 0} (f : X → Option Y) (xs : List X) (ys ys' : List Y) (i : ℕ) (x : X) (found : Option Y) → i < length xs → x ≡ get_or xs i x → found ≡ f x → ys' ≡ ys ++ option_to_list found → ys ≡ filter_map f (take i xs) → ys' ≡ filter_map f (take (i + 1) xs)
found_next {Y = Y} f xs ys ys' i x found within here is pushed before =
    pushed ∙ ap (λ own. own ++ option_to_list found) before ∙ ap (λ own. filter_map f (take i xs) ++ option_to_list own) is
    ∙ sym (ap (filter_map f) (take_more xs i x within ∙ ap (λ v. take i xs ++ v ∷ []) (sym here)) ∙ filter_map-append f (take i xs) (x ∷ []) ∙ ap (λ own. filter_map f (take i xs) ++ own) (listed (f x)))
  where
    listed : (own : Option Y) → cons_option own [] ≡ option_to_list own
    listed None = refl
    listed (Some own) = refl
