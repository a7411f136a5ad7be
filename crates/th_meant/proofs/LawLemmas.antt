-- What is named, by the definitions alone.
use Rattle.std.proofs.Common.{◌≡◌, ◌≢◌, ◌<◌, ◌≤◌, ◌⊎◌, inl, inr, Bool, true, false, cond, ℤ, List, [], Contains, length, nat_le, refl, subst, sym, ap, ◌∙◌, arith, leb-false, leb-true}
use Rattle.std.specs.List.{AllPairs}
use Rattle.th_meant.specs.Limits.{max_named}
use Rattle.th_meant.specs.Meant.{AreCandidates, AreNamed, IsCandidate, named_of}
use Rattle.th_meant.specs.Ranges.{is_nearer, is_within}
use Rattle.th_meant.specs.declared.proposed.Proposed.{Proposed}
use Rattle.th_meant.specs.declared.typed.Typed.{Typed}
use Rattle.th_meant.proofs.MemberLemmas.{none_in}
use Rattle.th_meant.proofs.PlacedLemmas.{ascends, one_list}

-- all are named, or none and they are too many
by_number : (P : List ℤ → Type 0) (heights : List ℤ) → (length heights ≤ 3 → P heights) → (3 < length heights → P []) → P (named_of heights)
by_number P heights few many = go (nat_le (length heights) 3) refl
  where
    go : (own : Bool) → nat_le (length heights) 3 ≡ own → P (cond own heights [])
    go true e = few (leb-true (length heights) 3 e)
    go false e = many (leb-false (length heights) 3 e)

module _ (typed : Typed) (others : List ℤ) (proposed : Proposed) where
  pub named_candidate : (named : List ℤ) (height : ℤ) → AreNamed typed others proposed named → Contains named height → IsCandidate typed others proposed height
  named_candidate named height (heights, are, is) among =
      let has : Contains (named_of heights) height = subst (λ (own : List ℤ). Contains own height) is among in
      (are.each height).0 (by_number (λ own. Contains own height → Contains heights height) heights (λ few own. own) (λ many own. absurd (none_in height own)) has)

  pub named_fits : (named : List ℤ) (height : ℤ) → AreNamed typed others proposed named → Contains named height → (is_within proposed height ≡ true) × (height ≢ typed.given)
  named_fits named height are among =
      let candidate = named_candidate named height are among in
      (candidate.fits, candidate.another)

  pub named_few : (named : List ℤ) → AreNamed typed others proposed named → length named ≤ max_named
  named_few named (heights, are, is) =
      let few : length (named_of heights) ≤ 3 = by_number (λ own. length own ≤ 3) heights (λ few. few) (λ many. omega arith) in
      omega (arith, few, ap length is)

  pub named_ordered : (named : List ℤ) → AreNamed typed others proposed named → AllPairs (λ one other. is_nearer proposed one other ≡ true) named
  named_ordered named (heights, are, is) =
      subst (λ (own : List ℤ). AllPairs (λ one other. is_nearer proposed one other ≡ true) own) (sym is)
      (by_number (λ own. AllPairs (λ one other. is_nearer proposed one other ≡ true) own) heights (λ few. are.ordered) (λ many i j d before within. absurd (omega (arith, within))))

  pub meant_named : (named : List ℤ) (meant : ℤ) → AreNamed typed others proposed named → IsCandidate typed others proposed meant
      → Contains named meant ⊎ ((named ≡ []) × (heights : List ℤ) × AreCandidates typed others proposed heights × (max_named < length heights))
  meant_named named meant (heights, are, is) candidate =
      subst (λ (own : List ℤ). Contains own meant ⊎ ((own ≡ []) × (heights : List ℤ) × AreCandidates typed others proposed heights × (max_named < length heights))) (sym is)
      (by_number (λ own. Contains own meant ⊎ ((own ≡ []) × (heights : List ℤ) × AreCandidates typed others proposed heights × (max_named < length heights))) heights
      (λ few. inl ((are.each meant).1 candidate))
      (λ many. inr (refl, heights, are, many)))

  pub one_named : (one other : List ℤ) → AreNamed typed others proposed one → AreNamed typed others proposed other → one ≡ other
  one_named one other (heights, are, is) (also, own, equals) =
      let same : heights ≡ also = one_list proposed heights also (ascends proposed heights are.ordered) (ascends proposed also own.ordered)
      (λ height among. (own.each height).1 ((are.each height).0 among)) (λ height among. (are.each height).1 ((own.each height).0 among)) in
      is ∙ ap named_of same ∙ sym equals
