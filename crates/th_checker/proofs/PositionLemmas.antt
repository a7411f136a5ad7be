-- The first of some elements that passes a test, as a loop looks for it.
use Rattle.std.proofs.Common.{◌≡◌, ◌<◌, ◌≤◌, ◌+◌, ◌&&◌, ℕ, Bool, true, false, cond, List, [], ◌∷◌, length, get_or, drop, take, Some, None, slice_get, ◌⊎◌, inl, inr, sym, ap, ◌∙◌}
use Rattle.std.specs.List.{list_all, position_from}
use Rattle.std.proofs.lemmas.List.{drop_all, drop_more, take_all, take_more}
use Rattle.std.proofs.lemmas.Option.{slice_get_cases}
use Rattle.std.proofs.lemmas.List.Folds.{list_all-append, list_all_at}

-- a place where nothing is found is past the end
pub past_end : {X : Type 0} (xs : List X) (k : ℕ) → None ≡ slice_get xs k → length xs ≤ k
past_end {X} xs k none = by (slice_get_cases xs k).1
  where
    by : ((x : X) × (k < length xs) × (slice_get xs k ≡ Some x) × (get_or xs k x ≡ x)) ⊎ ((length xs ≤ k) × (slice_get xs k ≡ None)) → length xs ≤ k
    by (inl some) = absurd (cc (none ∙ some.2))
    by (inr past) = past.0

module _ {X : Type 0} (test : X → Bool) where
  -- the element at a place fails
  pub position_more : (xs : List X) (k : ℕ) (x : X) → k < length xs → test (get_or xs k x) ≡ false → position_from test (k + 1) (drop k xs) ≡ position_from test ((k + 1) + 1) (drop (k + 1) xs)
  position_more xs k x within fails =
      ap (position_from test (k + 1)) (drop_more xs k x within) ∙ ap (λ b. cond b (Some (k + 1)) (position_from test ((k + 1) + 1) (drop (k + 1) xs))) fails

  -- the element at a place passes
  pub position_here : (xs : List X) (k : ℕ) (x : X) → k < length xs → test (get_or xs k x) ≡ true → position_from test (k + 1) (drop k xs) ≡ Some (k + 1)
  position_here xs k x within passes =
      ap (position_from test (k + 1)) (drop_more xs k x within) ∙ ap (λ b. cond b (Some (k + 1)) (position_from test ((k + 1) + 1) (drop (k + 1) xs))) passes

  -- no element is left
  pub position_end : (xs : List X) (k : ℕ) → length xs ≤ k → position_from test (k + 1) (drop k xs) ≡ None
  position_end xs k past = ap (position_from test (k + 1)) (drop_all k xs past)

  -- one more element passes a test that all of them so far pass
  pub all_more : (xs : List X) (k : ℕ) (x : X) → k < length xs → test (get_or xs k x) ≡ true → list_all test (take k xs) ≡ true → list_all test (take (k + 1) xs) ≡ true
  all_more xs k x within passes so_far =
      ap (list_all test) (take_more xs k x within)
      ∙ list_all-append test (take k xs) (get_or xs k x ∷ [])
      ∙ ap (λ b. b && (test (get_or xs k x) && true)) so_far
      ∙ ap (λ b. b && true) passes

  -- one that fails
  pub all_fails : (xs : List X) (k : ℕ) (x : X) → k < length xs → test (get_or xs k x) ≡ false → list_all test xs ≡ false
  all_fails xs k x within fails = list_all_at test xs k x within fails

  -- all of them pass
  pub all_pass : (xs : List X) (k : ℕ) → length xs ≤ k → list_all test (take k xs) ≡ true → list_all test xs ≡ true
  all_pass xs k past so_far = ap (list_all test) (sym (take_all k xs past)) ∙ so_far
