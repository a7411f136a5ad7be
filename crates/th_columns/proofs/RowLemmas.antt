-- Lines that are written one after another, and the rows of which they are the lines.
use Rattle.std.proofs.Common.{◌≡◌, ◌<◌, ◌+◌, ℕ, List, [], ◌∷◌, ◌++◌, Some, length, get_or, drop, map, slice_get, sym, ap, ◌∙◌, append_assoc}
use Rattle.std.specs.List.{enumerate_from, flat_map, zip}
use Rattle.std.proofs.lemmas.List.{drop_more, get_or-map}
use Rattle.std.proofs.lemmas.Option.{get_or_from_slice_get}

module _ {X : Type 0} (line : X → List ℕ) where
  -- one line more, where the rows that are left begin with its row
  pub further : (row : X) (left left' : List X) (text text' all : List ℕ) → left ≡ row ∷ left' → text' ≡ text ++ line row → text ++ flat_map line left ≡ all → text' ++ flat_map line left' ≡ all
  further row left left' text text' all first written so_far =
      ap (λ front. front ++ flat_map line left') written
      ∙ append_assoc text (line row) (flat_map line left')
      ∙ ap (λ rows. text ++ flat_map line rows) (sym first)
      ∙ so_far

-- the rows from a place on
pub drop-first : {X : Type 0} → (xs : List X) (k : ℕ) (x : X) → k < length xs → x ≡ get_or xs k x → drop k xs ≡ x ∷ drop (k + 1) xs
drop-first xs k x within is = drop_more xs k x within ∙ ap (λ first. first ∷ drop (k + 1) xs) (sym is)

-- the same, numbered
pub numbered-first : {X : Type 0} → (xs : List X) (k : ℕ) (x : X) → k < length xs → x ≡ get_or xs k x → enumerate_from (k + 1) (drop k xs) ≡ (k + 1, x) ∷ enumerate_from (k + 1 + 1) (drop (k + 1) xs)
numbered-first xs k x within is = ap (enumerate_from (k + 1)) (drop-first xs k x within is)

-- two lists side by side, from a place on
pub zipped-first : {X Y : Type 0} → (xs : List X) (ys : List Y) (k : ℕ) (x : X) (y : Y) → k < length xs → k < length ys → x ≡ get_or xs k x → y ≡ get_or ys k y
    → zip (drop k xs) (drop k ys) ≡ (x, y) ∷ zip (drop (k + 1) xs) (drop (k + 1) ys)
zipped-first xs ys k x y within within' is is' =
    ap (λ (left : List _). zip left (drop k ys)) (drop-first xs k x within is)
    ∙ ap (λ (left : List _). zip (x ∷ drop (k + 1) xs) left) (drop-first ys k y within' is')

-- two lists side by side, numbered
pub paired-first : {X Y : Type 0} → (xs : List X) (ys : List Y) (k : ℕ) (x : X) (y : Y) → k < length xs → k < length ys → x ≡ get_or xs k x → y ≡ get_or ys k y
    → enumerate_from (k + 1) (zip (drop k xs) (drop k ys)) ≡ (k + 1, (x, y)) ∷ enumerate_from (k + 1 + 1) (zip (drop (k + 1) xs) (drop (k + 1) ys))
paired-first xs ys k x y within within' is is' =
    ap (λ (left : List _). enumerate_from (k + 1) (zip left (drop k ys))) (drop-first xs k x within is)
    ∙ ap (λ (left : List _). enumerate_from (k + 1) (zip (x ∷ drop (k + 1) xs) left)) (drop-first ys k y within' is')

-- what is found at a place, by what stands there
pub found_there : {X Y : Type 0} → (f : X → Y) (xs : List X) (k : ℕ) (x : X) (y : Y) → k < length xs → x ≡ get_or xs k x → slice_get (map f xs) k ≡ Some y → y ≡ f x
found_there f xs k x y within is found = sym (get_or_from_slice_get (map f xs) k y y found) ∙ get_or-map f xs k x y within ∙ ap f (sym is)
