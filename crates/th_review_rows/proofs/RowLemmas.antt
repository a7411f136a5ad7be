-- Rows that are pushed one after another, and the lists side by side of which they are the rows.
use Rattle.std.proofs.Common.{◌≡◌, ◌<◌, ◌+◌, ℕ, List, [], ◌∷◌, ◌++◌, drop, get_or, length, map, sym, ap, ◌∙◌, append_assoc}
use Rattle.std.specs.List.{zip}
use Rattle.std.proofs.lemmas.List.{get_or-map}
use Rattle.th_columns.proofs.RowLemmas.{drop-first, zipped-first}

-- one row more, where what is left begins with what it is the row of
pub pushed : {X Y : Type 0} → (row : X → Y) (x : X) (left left' : List X) (rows rows' all : List Y) → left ≡ x ∷ left' → rows' ≡ rows ++ row x ∷ [] → rows ++ map row left ≡ all → rows' ++ map row left' ≡ all
pushed row x left left' rows rows' all first more so_far =
    ap (λ front. front ++ map row left') more
    ∙ append_assoc rows (row x ∷ []) (map row left')
    ∙ ap (λ left. rows ++ map row left) (sym first)
    ∙ so_far

-- three lists side by side
pub zipped-first3 : {X Y Z : Type 0} → (xs : List X) (ys : List Y) (zs : List Z) (k : ℕ) (x : X) (y : Y) (z : Z) → k < length xs → k < length ys → k < length zs → x ≡ get_or xs k x → y ≡ get_or ys k y → z ≡ get_or zs k z
    → zip (drop k xs) (zip (drop k ys) (drop k zs)) ≡ (x, (y, z)) ∷ zip (drop (k + 1) xs) (zip (drop (k + 1) ys) (drop (k + 1) zs))
zipped-first3 xs ys zs k x y z within within' within'' is is' is'' =
    ap (λ (left : List _). zip left (zip (drop k ys) (drop k zs))) (drop-first xs k x within is)
    ∙ ap (λ (left : List _). zip (x ∷ drop (k + 1) xs) left) (zipped-first ys zs k y z within' within'' is' is'')

-- what a function gives at a place, by what is there
pub mapped_there : {X Y : Type 0} → (f : X → Y) (xs : List X) (k : ℕ) (x : X) (d : Y) → k < length xs → x ≡ get_or xs k x → get_or (map f xs) k d ≡ f x
mapped_there f xs k x d within is = get_or-map f xs k x d within ∙ ap f (sym is)
