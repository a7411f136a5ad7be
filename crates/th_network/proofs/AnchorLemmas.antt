-- Places wait until their neighbours are marked; when none waits, just what is reached is marked.
use Rattle.std.proofs.Common.{◌≡◌, ◌↔◌, ℕ, ◌<◌, ◌⊎◌, inl, inr, Bool, true, ℤ, List, [], ◌∷◌, ◌++◌, length, get_or, slice_get, map, Option, Some, None, All, Contains, is_some, refl, sym, ap, ◌∙◌, subst, arith}
use Rattle.std.proofs.lemmas.Bool.{false≢true}
use Rattle.std.proofs.lemmas.List.{length-map, get_or-map}
use Rattle.std.proofs.lemmas.List.Elements.{All-contains, Contains-get_or, Contains-append_left, Contains-push, Contains-push_cases}
use Rattle.std.proofs.lemmas.Option.{slice_get_within, slice_get_read, get_or_from_slice_get, slice_get-get_or}
use Rattle.th_points.specs.Ends.{AreBelow}
use Rattle.th_network.specs.Inside.Neighbours.{Joins, IsListed, AreNeighbours}
use Rattle.th_network.specs.Inside.Marks.{IsMarked, IsSeeded, Spreads, AreAdded}
use Rattle.th_network.specs.Inside.Reached.{IsReached, by_height, joined}

-- while places wait: what is marked is reached, and a place that is joined to a marked one is marked, or that one waits
pub record IsReaching (heights : List (Option ℤ)) (ends : List (ℕ × ℕ)) (marked : List Bool) (waiting : List ℕ) : Type 0 where
  pub size : length marked ≡ length heights
  pub seeds : (place : ℕ) (height : ℤ) → slice_get heights place ≡ Some (Some height) → IsMarked marked place
  pub sound : (place : ℕ) → IsMarked marked place → IsReached heights ends place
  pub no_other : (place : ℕ) → Contains waiting place → IsMarked marked place
  pub passed_on : (place other : ℕ) → Joins ends place other → IsMarked marked place → Contains waiting place ⊎ IsMarked marked other

-- at first just the places with a height are marked
seed_place : (heights : List (Option ℤ)) (place : ℕ) → IsMarked (map is_some heights) place → (height : ℤ) × (slice_get heights place ≡ Some (Some height))
seed_place heights place is = by (get_or heights place None) refl
  where
    within : place < length heights
    within = omega (arith, slice_get_within (map is_some heights) place true is, length-map heights is_some)

    mark : is_some (get_or heights place None) ≡ true
    mark = sym (get_or-map is_some heights place None true within) ∙ get_or_from_slice_get (map is_some heights) place true true is

    by : (h : Option ℤ) → get_or heights place None ≡ h → (height : ℤ) × (slice_get heights place ≡ Some (Some height))
    by None e = absurd (false≢true (sym (ap is_some e) ∙ mark))
    by (Some height) e = (height, slice_get-get_or heights place None within ∙ ap Some e)

height_marked : (heights : List (Option ℤ)) (place : ℕ) (height : ℤ) → slice_get heights place ≡ Some (Some height) → IsMarked (map is_some heights) place
height_marked heights place height at =
    let within = slice_get_within heights place (Some height) at in
    slice_get_read (map is_some heights) (length heights) place true (sym (length-map heights is_some)) within (sym (get_or-map is_some heights place None true within ∙ ap is_some (get_or_from_slice_get heights place (Some height) None at)))

pub reaching_first : (heights : List (Option ℤ)) (ends : List (ℕ × ℕ)) (marked : List Bool) (waiting : List ℕ) → IsSeeded heights marked waiting → IsReaching heights ends marked waiting
reaching_first heights ends marked waiting h = record {
  size = ap length h.marks ∙ length-map heights is_some;
  seeds = λ place height at. subst (λ (m : List Bool). IsMarked m place) (sym h.marks) (height_marked heights place height at);
  sound = λ place is.
      let seed = seed_place heights place (subst (λ (m : List Bool). IsMarked m place) h.marks is) in
      by_height place seed.0 seed.1;
  no_other = h.no_other;
  passed_on = λ place other joins is. inl (h.all_wait place is);
}

-- joined places are joined in the other direction too
turned : (ends : List (ℕ × ℕ)) (place other : ℕ) → Joins ends place other → Joins ends other place
turned ends place other (inl from) = inr from
turned ends place other (inr to) = inl to

-- a place that waited has its neighbours marked
pub reaching_next : (count : ℕ) (heights : List (Option ℤ)) (ends : List (ℕ × ℕ)) (lists : List (List ℕ)) (neighbours : List ℕ) (place : ℕ) (m1 m2 : List Bool) (w0 w1 w2 : List ℕ) → w0 ≡ w1 ++ place ∷ [] → AreNeighbours count ends lists → ((other : ℕ) → Contains neighbours other ↔ IsListed lists place other) → AreAdded neighbours m1 m2 → Spreads m1 w1 m2 w2 → IsReaching heights ends m1 w0 → IsReaching heights ends m2 w2
reaching_next count heights ends lists neighbours place m1 m2 w0 w1 w2 popped are of added spreads h = record {
  size = spreads.size ∙ h.size;
  seeds = λ other height at. spreads.kept other (h.seeds other height at);
  sound = λ other is. elim (added.no_other other is) [
    | inl before ↦ h.sound other before
    | inr new ↦ joined other place (turned ends place other ((are.joined place other).0 ((of other).0 new))) here
  ];
  no_other = λ other waits. elim (spreads.no_other other waits) [
    | inl before ↦ spreads.kept other (h.no_other other (waited other before))
    | inr is ↦ is
  ];
  passed_on = λ one other joins is. elim (spreads.new_waits one is) [
    | inr waits ↦ inl waits
    | inl old ↦ elim (h.passed_on one other joins old) [
      | inr was ↦ inr (spreads.kept other was)
      | inl did ↦ elim (left one did) [
        | inl waits ↦ inl (spreads.still_waits one waits)
        | inr same ↦ inr (added.all other ((of other).1 ((are.joined place other).1 (subst (λ (p : ℕ). Joins ends p other) (sym same) joins))))
      ]
    ]
  ];
}
  where
    waited : (other : ℕ) → Contains w1 other → Contains w0 other
    waited other waits = subst (λ (w : List ℕ). Contains w other) (sym popped) (Contains-append_left w1 (place ∷ []) other waits)

    left : (other : ℕ) → Contains w0 other → Contains w1 other ⊎ (place ≡ other)
    left other waits = Contains-push_cases w1 place other (subst (λ (w : List ℕ). Contains w other) popped waits)

    here : IsReached heights ends place
    here = h.sound place (h.no_other place (subst (λ (w : List ℕ). Contains w place) (sym popped) (Contains-push w1 place)))

-- a place that waits is one of those
pub waiting_within : (heights : List (Option ℤ)) (ends : List (ℕ × ℕ)) (place : ℕ) (marked : List Bool) (waiting left : List ℕ) → waiting ≡ left ++ place ∷ [] → IsReaching heights ends marked waiting → place < length heights
waiting_within heights ends place marked waiting left popped h =
    let marked_here = h.no_other place (subst (λ (w : List ℕ). Contains w place) (sym popped) (Contains-push left place)) in
    omega (arith, slice_get_within marked place true marked_here, h.size)

-- a neighbour is one of those
pub joined_within : (limit : ℕ) (ends : List (ℕ × ℕ)) (place other : ℕ) → All (AreBelow limit) ends → Joins ends place other → other < limit
joined_within limit ends place other below (inl from) = (All-contains (AreBelow limit) ends (place, other) below from).1
joined_within limit ends place other below (inr to) = (All-contains (AreBelow limit) ends (other, place) below to).0

pub neighbours_within : (limit count : ℕ) (ends : List (ℕ × ℕ)) (lists : List (List ℕ)) (neighbours : List ℕ) (place : ℕ) → All (AreBelow limit) ends → AreNeighbours count ends lists → ((other : ℕ) → Contains neighbours other ↔ IsListed lists place other) → All (λ other. other < limit) neighbours
neighbours_within limit count ends lists neighbours place below are of = λ k d within.
    let has : Contains neighbours (get_or neighbours k d) = Contains-get_or neighbours k d within in
    joined_within limit ends place (get_or neighbours k d) below ((are.joined place (get_or neighbours k d)).0 ((of (get_or neighbours k d)).0 has))

-- when no place waits, just what is reached is marked
pub reached_all : (heights : List (Option ℤ)) (ends : List (ℕ × ℕ)) (marked : List Bool) (waiting : List ℕ) → length waiting ≡ 0 → IsReaching heights ends marked waiting → (place : ℕ) → IsMarked marked place ↔ IsReached heights ends place
reached_all heights ends marked waiting done h = λ place. (h.sound place, complete place)
  where
    complete : (place : ℕ) → IsReached heights ends place → IsMarked marked place
    complete _ (by_height place height at) = h.seeds place height at
    complete _ (joined place other joins reached) = elim (h.passed_on other place (turned ends place other joins) (complete other reached)) [
      | inl waits ↦ absurd (omega (arith, waits.1))
      | inr is ↦ is
    ]
