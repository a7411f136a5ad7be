-- What stands at a place of a list, after a write and after a push; what a list has that is made of another.
use Rattle.std.proofs.Common.{◌≡◌, ◌≢◌, ℕ, ◌<◌, ◌≤◌, ◌⊎◌, inl, inr, List, [], ◌∷◌, ◌++◌, length, get_or, slice_get, map, Some, None, Contains, refl, sym, ap, ◌∙◌, arith, length-append}
use Rattle.std.proofs.Math.ListN.{set, get_or-append}
use Rattle.std.proofs.Math.Nat.{eq-or-lt_of_le}
use Rattle.std.proofs.Math.Seq.{get_or-append_seam}
use Rattle.std.proofs.lemmas.List.{length-map, length-set, get_or-map, get_or-set_other, get_or-set_same}
use Rattle.std.proofs.lemmas.Option.{slice_get_within, slice_get_read, slice_get_cases, get_or_from_slice_get}

module _ {X : Type 0} where
  -- what is found elsewhere than at a write was there
  pub got-set_other : (xs : List X) (i j : ℕ) (x y : X) → j ≢ i → slice_get (set xs i x) j ≡ Some y → slice_get xs j ≡ Some y
  got-set_other xs i j x y other found =
      let within : j < length xs = omega (arith, slice_get_within (set xs i x) j y found, length-set xs i x) in
      slice_get_read xs (length xs) j y refl within (sym (get_or_from_slice_get (set xs i x) j y y found) ∙ get_or-set_other xs i j x y other)

  -- what is found at a write was written
  pub got-set_same : (xs : List X) (i : ℕ) (x y : X) → slice_get (set xs i x) i ≡ Some y → x ≡ y
  got-set_same xs i x y found =
      let within : i < length xs = omega (arith, slice_get_within (set xs i x) i y found, length-set xs i x) in
      sym (get_or-set_same xs i x y within) ∙ get_or_from_slice_get (set xs i x) i y y found

  -- what is found after a push was there, or was pushed
  pub got-push : (xs : List X) (x : X) (j : ℕ) (y : X) → slice_get (xs ++ x ∷ []) j ≡ Some y → (slice_get xs j ≡ Some y) ⊎ ((j ≡ length xs) × (x ≡ y))
  got-push xs x j y found =
      let within : j ≤ length xs = omega (arith, slice_get_within (xs ++ x ∷ []) j y found, length-append xs (x ∷ [])) in
      let value = get_or_from_slice_get (xs ++ x ∷ []) j y y found in
      elim (eq-or-lt_of_le within) [
        | inl last ↦ inr (last, sym (get_or-append_seam xs x [] y) ∙ ap (λ k. get_or (xs ++ x ∷ []) k y) (sym last) ∙ value)
        | inr before ↦ inl (slice_get_read xs (length xs) j y refl before (sym value ∙ get_or-append xs (x ∷ []) y j before))
      ]

  -- what was there before a push is there
  pub at-push_before : (xs : List X) (x : X) (j : ℕ) (y : X) → slice_get xs j ≡ Some y → slice_get (xs ++ x ∷ []) j ≡ Some y
  at-push_before xs x j y at =
      let within = slice_get_within xs j y at in
      slice_get_read (xs ++ x ∷ []) (length (xs ++ x ∷ [])) j y refl (omega (arith, length-append xs (x ∷ []))) (sym (get_or-append xs (x ∷ []) y j within ∙ get_or_from_slice_get xs j y y at))

  -- what is pushed stands last
  pub at-push_last : (xs : List X) (x : X) (j : ℕ) → j ≡ length xs → slice_get (xs ++ x ∷ []) j ≡ Some x
  at-push_last xs x j last =
      slice_get_read (xs ++ x ∷ []) (length (xs ++ x ∷ [])) j x refl (omega (arith, length-append xs (x ∷ []))) (sym (ap (λ k. get_or (xs ++ x ∷ []) k x) last ∙ get_or-append_seam xs x [] x))

module _ {X Y : Type 0} where
  -- an element of a list that is made for each element
  pub Contains-map : (f : X → Y) (xs : List X) (y : Y) → Contains (map f xs) y → (x : X) × Contains xs x × (f x ≡ y)
  Contains-map f xs y has = by (slice_get_cases xs has.0).1
    where
      within : has.0 < length xs
      within = omega (arith, has.1, length-map xs f)

      by : ((x : X) × (has.0 < length xs) × (slice_get xs has.0 ≡ Some x) × (get_or xs has.0 x ≡ x)) ⊎ ((length xs ≤ has.0) × (slice_get xs has.0 ≡ None)) → (x : X) × Contains xs x × (f x ≡ y)
      by (inl found) = (found.0, (has.0, found.1, found.3), ap f (sym found.3) ∙ sym (get_or-map f xs has.0 found.0 y within) ∙ has.2)
      by (inr past) = let far : length xs ≤ has.0 = past.0 in let near : has.0 < length xs = within in absurd (omega arith)

  pub Contains-in_map : (f : X → Y) (xs : List X) (x : X) → Contains xs x → Contains (map f xs) (f x)
  Contains-in_map f xs x has = (has.0, omega (arith, has.1, length-map xs f), get_or-map f xs has.0 x (f x) has.1 ∙ ap f has.2)
