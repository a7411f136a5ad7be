-- What a list has, by its first element and the rest.
use Rattle.std.proofs.Common.{◌≡◌, ◌⊎◌, inl, inr, zero, suc, List, [], ◌∷◌, ◌++◌, Contains, refl, subst, sym, arith}
use Rattle.std.specs.List.{flat_map}
use Rattle.std.proofs.lemmas.List.Elements.{Contains-append_cases, Contains-append_left, Contains-append_right}

module _ {X : Type 0} where
  pub none_in : (x : X) → Contains [] x → ⊥
  none_in x (k, within, is) = omega (arith, within)

  pub at_first : (x : X) (xs : List X) → Contains (x ∷ xs) x
  at_first x xs = (0, omega arith, refl)

  pub in_rest : (y x : X) (xs : List X) → Contains xs x → Contains (y ∷ xs) x
  in_rest y x xs (k, within, is) = (suc k, omega arith, is)

  pub member_cases : (y x : X) (xs : List X) → Contains (y ∷ xs) x → (y ≡ x) ⊎ Contains xs x
  member_cases y x xs (zero, within, is) = inl is
  member_cases y x xs (suc k, within, is) = inr (k, omega arith, is)

-- a list of pieces has what one of them has
pub in_piece : {X Y : Type 0} (f : X → List Y) (xs : List X) (x : X) (y : Y) → Contains xs x → Contains (f x) y → Contains (flat_map f xs) y
in_piece f [] x y among own = absurd (none_in x among)
in_piece {X} {Y} f (first ∷ rest) x y among own = go (member_cases first x rest among) (λ later. in_piece f rest x y later own)
  where
    go : (first ≡ x) ⊎ Contains rest x → (Contains rest x → Contains (flat_map f rest) y) → Contains (f first ++ flat_map f rest) y
    go (inl same) later = Contains-append_left (f first) (flat_map f rest) y (subst (λ (own : X). Contains (f own) y) (sym same) own)
    go (inr among) later = Contains-append_right (f first) (flat_map f rest) y (later among)

pub piece_of : {X Y : Type 0} (f : X → List Y) (xs : List X) (y : Y) → Contains (flat_map f xs) y → (x : X) × Contains xs x × Contains (f x) y
piece_of f [] y among = absurd (none_in y among)
piece_of {X} {Y} f (first ∷ rest) y among = go (Contains-append_cases (f first) (flat_map f rest) y among) (piece_of f rest y)
  where
    go : Contains (f first) y ⊎ Contains (flat_map f rest) y → (Contains (flat_map f rest) y → (x : X) × Contains rest x × Contains (f x) y) → (x : X) × Contains (first ∷ rest) x × Contains (f x) y
    go (inl own) later = (first, at_first first rest, own)
    go (inr among) later = let found = later among in (found.0, in_rest first found.0 rest found.1, found.2)
