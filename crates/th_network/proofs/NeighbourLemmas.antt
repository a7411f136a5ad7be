-- One more neighbour in a list, one more observation in the lists.
use Rattle.std.proofs.Common.{◌≡◌, ◌≢◌, ◌↔◌, ℕ, ◌+◌, ◌<◌, ◌≤◌, ◌⊎◌, inl, inr, List, [], ◌∷◌, ◌++◌, length, get_or, slice_get, take, map, Some, None, option_map, All, Contains, refl, sym, ap, ◌∙◌, subst, arith}
use Rattle.std.proofs.Math.ListN.{set}
use Rattle.std.proofs.lemmas.Bool.{cases_eq}
use Rattle.std.proofs.lemmas.List.{length-map, length-set, map-set, get_or-set_same, get_or-set_other, take_more}
use Rattle.std.proofs.lemmas.List.Elements.{Contains-append_left, Contains-push, Contains-push_cases}
use Rattle.std.proofs.lemmas.Option.{slice_get_within, slice_get_read, slice_get_cases, slice_get-map, get_or_from_slice_get, same_Some}
use Rattle.th_network.specs.Inside.Neighbours.{Joins, IsListed}
use Rattle.th_network.proofs.Gets.{got-set_other, got-set_same}

-- one list has one more element
pub listed_more : (lists : List (List ℕ)) (place other : ℕ) (others : List ℕ) → slice_get lists place ≡ Some others → (at to : ℕ) → IsListed (set lists place (others ++ other ∷ [])) at to ↔ (IsListed lists at to ⊎ ((at ≡ place) × (to ≡ other)))
listed_more lists place other others here at to = (there, back)
  where
    more : List ℕ
    more = others ++ other ∷ []

    there : IsListed (set lists place more) at to → IsListed lists at to ⊎ ((at ≡ place) × (to ≡ other))
    there h = elim (cases_eq at place) [
      | inr differs ↦ inl (h.0, got-set_other lists place at more h.0 differs h.1, h.2)
      | inl same ↦
          let is : more ≡ h.0 = got-set_same lists place more h.0 (ap (slice_get (set lists place more)) (sym same) ∙ h.1) in
          elim (Contains-push_cases others other to (subst (λ (xs : List ℕ). Contains xs to) (sym is) h.2)) [
            | inl before ↦ inl (others, ap (slice_get lists) same ∙ here, before)
            | inr new ↦ inr (same, sym new)
          ]
    ]

    written : slice_get (set lists place more) place ≡ Some more
    written =
        let within = slice_get_within lists place others here in
        slice_get_read (set lists place more) (length lists) place more (sym (length-set lists place more)) within (sym (get_or-set_same lists place more more within))

    kept : (p : ℕ) → p ≢ place → (xs : List ℕ) → slice_get lists p ≡ Some xs → slice_get (set lists place more) p ≡ Some xs
    kept p differs xs is =
        slice_get_read (set lists place more) (length lists) p xs (sym (length-set lists place more)) (slice_get_within lists p xs is) (sym (get_or_from_slice_get lists p xs xs is) ∙ sym (get_or-set_other lists place p more xs differs))

    back : IsListed lists at to ⊎ ((at ≡ place) × (to ≡ other)) → IsListed (set lists place more) at to
    back (inr new) = (more, ap (slice_get (set lists place more)) new.0 ∙ written, subst (Contains more) (sym new.1) (Contains-push others other))
    back (inl old) = elim (cases_eq at place) [
      | inr differs ↦ (old.0, kept at differs old.0 old.1, old.2)
      | inl same ↦ (
        more,
        ap (slice_get (set lists place more)) same ∙ written,
        Contains-append_left others (other ∷ []) to (subst (λ (xs : List ℕ). Contains xs to) (same_Some old.0 others (sym old.1 ∙ ap (slice_get lists) same ∙ here)) old.2),
      )
    ]

module _ {X : Type 0} where
  -- one of the lists, each of which is seen in this way, has one more element
  pub listed_push : (seen : X → List ℕ) (xs : List X) (place other : ℕ) (x x' : X) (lists : List (List ℕ)) → map seen xs ≡ lists → place < length lists → x ≡ get_or xs place x → seen x' ≡ seen x ++ other ∷ [] → (at to : ℕ) → IsListed (map seen (set xs place x')) at to ↔ (IsListed lists at to ⊎ ((at ≡ place) × (to ≡ other)))
  listed_push seen xs place other x x' lists is within read pushed =
      let inside : place < length xs = omega (arith, ap length is, length-map xs seen) in
      let here : slice_get (map seen xs) place ≡ Some (seen x) = slice_get-map seen xs place ∙ ap (option_map seen) (slice_get_read xs (length xs) place x refl inside read) in
      let written : map seen (set xs place x') ≡ set (map seen xs) place (seen x ++ other ∷ []) = map-set seen xs place x' ∙ ap (set (map seen xs) place) pushed in
      subst (λ (new : List (List ℕ)). (at to : ℕ) → IsListed new at to ↔ (IsListed lists at to ⊎ ((at ≡ place) × (to ≡ other)))) (sym written) (subst (λ (old : List (List ℕ)). (at to : ℕ) → IsListed (set (map seen xs) place (seen x ++ other ∷ [])) at to ↔ (IsListed old at to ⊎ ((at ≡ place) × (to ≡ other)))) is (listed_more (map seen xs) place other (seen x) here))

  -- lists without elements
  pub none_listed : (seen : X → List ℕ) (xs : List X) → All (λ x. seen x ≡ []) xs → (place other : ℕ) → ¬ IsListed (map seen xs) place other
  none_listed seen xs empty place other h = by (slice_get_cases xs place).1
    where
      by : ((x : X) × (place < length xs) × (slice_get xs place ≡ Some x) × (get_or xs place x ≡ x)) ⊎ ((length xs ≤ place) × (slice_get xs place ≡ None)) → ⊥
      by (inl found) =
          let is : h.0 ≡ [] = same_Some h.0 (seen found.0) (sym h.1 ∙ slice_get-map seen xs place ∙ ap (option_map seen) found.2) ∙ ap seen (sym found.3) ∙ empty place found.0 found.1 in
          omega (arith, h.2.1, ap length is)
      by (inr past) =
          let far : length xs ≤ place = past.0 in
          let near : place < length (map seen xs) = slice_get_within (map seen xs) place h.0 h.1 in
          omega (arith, length-map xs seen)

-- just what the observations join is listed
abbrev pub AreJoined : List (ℕ × ℕ) → List (List ℕ) → Type 0
AreJoined ends lists = (place other : ℕ) → IsListed lists place other ↔ Joins ends place other

-- what the lists have after one more observation
pub neighbours_more : (ends : List (ℕ × ℕ)) (i : ℕ) (d : ℕ × ℕ) (l1 l2 l3 : List (List ℕ)) → i < length ends → AreJoined (take i ends) l1 → ((at to : ℕ) → IsListed l2 at to ↔ (IsListed l1 at to ⊎ ((at ≡ (get_or ends i d).0) × (to ≡ (get_or ends i d).1)))) → ((at to : ℕ) → IsListed l3 at to ↔ (IsListed l2 at to ⊎ ((at ≡ (get_or ends i d).1) × (to ≡ (get_or ends i d).0)))) → AreJoined (take (i + 1) ends) l3
neighbours_more ends i d l1 l2 l3 within are first second =
    subst (λ (done : List (ℕ × ℕ)). AreJoined done l3) (sym (take_more ends i d within)) (λ place other. (there place other, back place other))
  where
    station : ℕ
    station = (get_or ends i d).0

    target : ℕ
    target = (get_or ends i d).1

    done : List (ℕ × ℕ)
    done = take i ends ++ (station, target) ∷ []

    old : (place other : ℕ) → Joins (take i ends) place other → Joins done place other
    old place other (inl from) = inl (Contains-append_left (take i ends) ((station, target) ∷ []) (place, other) from)
    old place other (inr to) = inr (Contains-append_left (take i ends) ((station, target) ∷ []) (other, place) to)

    pair : (a b c d : ℕ) → a ≡ c → b ≡ d → Contains done (c, d) → Contains done (a, b)
    pair a b c d e f has = subst (λ (x : ℕ). Contains done (x, b)) (sym e) (subst (λ (y : ℕ). Contains done (c, y)) (sym f) has)

    last : Contains done (station, target)
    last = Contains-push (take i ends) (station, target)

    there : (place other : ℕ) → IsListed l3 place other → Joins done place other
    there place other h = elim ((second place other).0 h) [
      | inr new ↦ inr (pair other place station target new.1 new.0 last)
      | inl before ↦ elim ((first place other).0 before) [
        | inr new ↦ inl (pair place other station target new.0 new.1 last)
        | inl was ↦ old place other ((are place other).0 was)
      ]
    ]

    back : (place other : ℕ) → Joins done place other → IsListed l3 place other
    back place other (inl from) = elim (Contains-push_cases (take i ends) (station, target) (place, other) from) [
      | inl before ↦ (second place other).1 (inl ((first place other).1 (inl ((are place other).1 (inl before)))))
      | inr same ↦ (second place other).1 (inl ((first place other).1 (inr (ap (λ (p : ℕ × ℕ). p.0) (sym same), ap (λ (p : ℕ × ℕ). p.1) (sym same)))))
    ]
    back place other (inr to) = elim (Contains-push_cases (take i ends) (station, target) (other, place) to) [
      | inl before ↦ (second place other).1 (inl ((first place other).1 (inl ((are place other).1 (inr before)))))
      | inr same ↦ (second place other).1 (inr (ap (λ (p : ℕ × ℕ). p.1) (sym same), ap (λ (p : ℕ × ℕ). p.0) (sym same)))
    ]

-- no observation joins places
pub joined_none : (lists : List (List ℕ)) → ((place other : ℕ) → ¬ IsListed lists place other) → AreJoined [] lists
joined_none lists none = λ place other. (λ h. absurd (none place other h), empty place other)
  where
    empty : (place other : ℕ) → Joins [] place other → IsListed lists place other
    empty place other (inl from) = absurd (omega (arith, from.1))
    empty place other (inr to) = absurd (omega (arith, to.1))
