-- What is kept of the heights that were offered.
use Rattle.std.proofs.Common.{◌≡◌, ◌≢◌, ◌⊎◌, inl, inr, Bool, true, false, cond, ◌&&◌, not, ℤ, List, [], ◌∷◌, ◌++◌, Contains, fold, take, refl, subst, sym, ap, ◌∙◌, arith, if◌then◌else◌}
use Rattle.std.specs.Ordering.{int_eq}
use Rattle.std.proofs.lemmas.Bool.{false≢true}
use Rattle.std.proofs.lemmas.List.Sums.{fold-append}
use Rattle.th_meant.specs.Inside.Nearest.{is_wanted, placed, with_offer, with_offers}
use Rattle.th_meant.specs.Ranges.{is_within}
use Rattle.th_meant.specs.declared.nearest.Sought.{Sought}
use Rattle.th_meant.proofs.MemberLemmas.{in_rest, member_cases, none_in}
use Rattle.th_meant.proofs.PlacedLemmas.{Ascend, equal_heights, other_heights, placed_ascends, placed_cases, placed_has, placed_keeps, taken_placed}

pub offers-append : (sought : Sought) (kept xs ys : List ℤ) → with_offers sought (with_offers sought kept xs) ys ≡ with_offers sought kept (xs ++ ys)
offers-append sought kept xs ys = sym (fold-append (with_offer sought) kept xs ys)

-- all that is looked for, in order, and not the nearest alone
abbrev with_one : Sought → List ℤ → ℤ → List ℤ
with_one sought all height = if is_wanted sought height then placed sought.proposed height all else all

abbrev pub in_order : Sought → List ℤ → List ℤ → List ℤ
in_order sought all heights = fold (with_one sought) all heights

module _ (sought : Sought) where
  abbrev one_if : ℤ → List ℤ → Bool → List ℤ
  one_if height all wanted = if wanted then placed sought.proposed height all else all

  -- cases of a height that is offered
  by_wanted : (P : List ℤ → Type 0) (all : List ℤ) (height : ℤ) → (is_wanted sought height ≡ true → P (placed sought.proposed height all)) → P all → P (with_one sought all height)
  by_wanted P all height one rest = go (is_wanted sought height) refl
    where
      go : (wanted : Bool) → is_wanted sought height ≡ wanted → P (one_if height all wanted)
      go true w = one w
      go false w = rest

  taken_offer : (all : List ℤ) (height : ℤ) → with_offer sought (take 4 all) height ≡ take 4 (with_one sought all height)
  taken_offer all height = go (is_wanted sought height)
    where
      go : (wanted : Bool) → cond wanted (take 4 (placed sought.proposed height (take 4 all))) (take 4 all) ≡ take 4 (one_if height all wanted)
      go true = taken_placed sought.proposed 4 height all
      go false = refl

  pub taken_offers : (all heights : List ℤ) → with_offers sought (take 4 all) heights ≡ take 4 (in_order sought all heights)
  taken_offers all [] = refl
  taken_offers all (height ∷ heights) = ap (λ own. with_offers sought own heights) (taken_offer all height) ∙ taken_offers (with_one sought all height) heights

  keeps_one : (all : List ℤ) (height own : ℤ) → Contains all own → Contains (with_one sought all height) own
  keeps_one all height own among = by_wanted (λ list. Contains list own) all height (λ wanted. placed_keeps sought.proposed height own all among) among

  pub keeps_all : (all heights : List ℤ) (own : ℤ) → Contains all own → Contains (in_order sought all heights) own
  keeps_all all [] own among = among
  keeps_all all (height ∷ heights) own among = keeps_all (with_one sought all height) heights own (keeps_one all height own among)

  has_one : (all : List ℤ) (height : ℤ) → is_wanted sought height ≡ true → Contains (with_one sought all height) height
  has_one all height wanted = subst (λ (own : Bool). Contains (one_if height all own) height) (sym wanted) (placed_has sought.proposed height all)

  pub has_offered : (all heights : List ℤ) (own : ℤ) → Contains heights own → is_wanted sought own ≡ true → Contains (in_order sought all heights) own
  has_offered all [] own among wanted = absurd (none_in own among)
  has_offered all (height ∷ heights) own among wanted = go (member_cases height own heights among) (λ later. has_offered (with_one sought all height) heights own later wanted)
    where
      go : (height ≡ own) ⊎ Contains heights own → (Contains heights own → Contains (in_order sought (with_one sought all height) heights) own) → Contains (in_order sought (with_one sought all height) heights) own
      go (inl same) rest = keeps_all (with_one sought all height) heights own (subst (λ (other : ℤ). Contains (with_one sought all other) own) (sym same) (has_one all own wanted))
      go (inr later) rest = rest later

  one_cases : (all : List ℤ) (height own : ℤ) → Contains (with_one sought all height) own → Contains all own ⊎ ((height ≡ own) × (is_wanted sought own ≡ true))
  one_cases all height own = by_wanted (λ list. Contains list own → Contains all own ⊎ ((height ≡ own) × (is_wanted sought own ≡ true))) all height
      (λ wanted among. go wanted (placed_cases sought.proposed height own all among))
      (λ among. inl among)
    where
      go : is_wanted sought height ≡ true → (height ≡ own) ⊎ Contains all own → Contains all own ⊎ ((height ≡ own) × (is_wanted sought own ≡ true))
      go wanted (inl same) = inr (same, sym (ap (is_wanted sought) same) ∙ wanted)
      go wanted (inr among) = inl among

  pub offered_cases : (all heights : List ℤ) (own : ℤ) → Contains (in_order sought all heights) own → Contains all own ⊎ (Contains heights own × (is_wanted sought own ≡ true))
  offered_cases all [] own among = inl among
  offered_cases all (height ∷ heights) own among = go (offered_cases (with_one sought all height) heights own among)
    where
      first : Contains all own ⊎ ((height ≡ own) × (is_wanted sought own ≡ true)) → Contains all own ⊎ (Contains (height ∷ heights) own × (is_wanted sought own ≡ true))
      first (inl among) = inl among
      first (inr (same, wanted)) = inr (subst (λ (other : ℤ). Contains (other ∷ heights) own) (sym same) (0, omega arith, refl), wanted)

      go : Contains (with_one sought all height) own ⊎ (Contains heights own × (is_wanted sought own ≡ true)) → Contains all own ⊎ (Contains (height ∷ heights) own × (is_wanted sought own ≡ true))
      go (inl one) = first (one_cases all height own one)
      go (inr (later, wanted)) = inr (in_rest height own heights later, wanted)

  pub offered_ascends : (all heights : List ℤ) → Ascend sought.proposed all → Ascend sought.proposed (in_order sought all heights)
  offered_ascends all [] up = up
  offered_ascends all (height ∷ heights) up = offered_ascends (with_one sought all height) heights (by_wanted (Ascend sought.proposed) all height (λ wanted. placed_ascends sought.proposed height all up) up)

  -- ---- what is looked for
  pub wanted_tells : (height : ℤ) → is_wanted sought height ≡ true → (height ≢ sought.given) × (is_within sought.proposed height ≡ true)
  wanted_tells height wanted = go (int_eq height sought.given) refl wanted
    where
      go : (same : Bool) → int_eq height sought.given ≡ same → (not same && is_within sought.proposed height) ≡ true → (height ≢ sought.given) × (is_within sought.proposed height ≡ true)
      go true s w = absurd (false≢true w)
      go false s w = (other_heights height sought.given s, w)

  pub is_wanted_if : (height : ℤ) → height ≢ sought.given → is_within sought.proposed height ≡ true → is_wanted sought height ≡ true
  is_wanted_if height another within = go (int_eq height sought.given) refl
    where
      go : (same : Bool) → int_eq height sought.given ≡ same → (not same && is_within sought.proposed height) ≡ true
      go true s = absurd (another (equal_heights height sought.given s))
      go false s = within
