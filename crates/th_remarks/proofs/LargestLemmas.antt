-- The largest size, one residual further.
use Rattle.std.proofs.Common.{◌≡◌, ◌<◌, ◌≤◌, ◌+◌, ◌++◌, ◌∷◌, [], ◌⊎◌, inl, inr, ◌∙◌, ℕ, ℤ, pos, List, All, Contains, get_or, length, map, take, unsigned_abs, ap, sym, subst, arith}
use Rattle.std.proofs.lemmas.Bool.{cases_lt}
use Rattle.std.proofs.lemmas.List.{map_push, take_more}
use Rattle.std.proofs.lemmas.List.Elements.{All-more, All-weaker, Contains-append_left, Contains-push}

module _ (residuals : List ℤ) (i before most : ℕ) (within : i < length residuals) where
  abbrev pub own : ℕ
  own = unsigned_abs (get_or residuals i (pos 0))

  pub largest_more : All (λ residual. unsigned_abs residual ≤ before) (take i residuals) → before ≤ most → own ≤ most
      → All (λ residual. unsigned_abs residual ≤ most) (take (i + 1) residuals)
  largest_more all larger here = All-more (λ residual. unsigned_abs residual ≤ most) residuals i (pos 0) within
      (All-weaker (λ residual. unsigned_abs residual ≤ before) (λ residual. unsigned_abs residual ≤ most) (λ residual small. omega (arith, small, larger)) (take i residuals) all) here

  sizes_push : map unsigned_abs (take (i + 1) residuals) ≡ map unsigned_abs (take i residuals) ++ own ∷ []
  sizes_push = ap (map unsigned_abs) (take_more residuals i (pos 0) within) ∙ map_push unsigned_abs (take i residuals) (get_or residuals i (pos 0))

  last : most ≡ own → Contains (map unsigned_abs (take i residuals) ++ own ∷ []) most
  last same = subst (λ size. Contains (map unsigned_abs (take i residuals) ++ own ∷ []) size) (sym same) (Contains-push (map unsigned_abs (take i residuals)) own)

  by_case : (0 < i → Contains (map unsigned_abs (take i residuals)) before) → (i ≡ 0 → before ≡ 0) → own ≤ most → (most ≡ before) ⊎ (most ≡ own)
      → Contains (map unsigned_abs (take i residuals) ++ own ∷ []) most
  by_case reached none here (inr same) = last same
  by_case reached none here (inl same) = elim (cases_lt 0 i) [
    | inl some ↦ Contains-append_left (map unsigned_abs (take i residuals)) (own ∷ []) most (subst (Contains (map unsigned_abs (take i residuals))) (sym same) (reached some))
    | inr first ↦ last (omega (arith, here, same, none (omega arith)))
  ]

  pub reached_more : (0 < i → Contains (map unsigned_abs (take i residuals)) before) → (i ≡ 0 → before ≡ 0) → own ≤ most → (most ≡ before) ⊎ (most ≡ own)
      → Contains (map unsigned_abs (take (i + 1) residuals)) most
  reached_more reached none here one = subst (λ sizes. Contains sizes most) (sym sizes_push) (by_case reached none here one)
