-- The walk back from the last row, until it comes to a vertex again.
use Rattle.std.proofs.Common.{◌≡◌, ◌≢◌, ℕ, zero, suc, ◌+◌, ◌-◌, ◌<◌, ◌≤◌, inl, inr, Bool, true, false, ◌||◌, ◌+ℤ◌, List, [], ◌∷◌, ◌++◌, reverse, drop, take, Option, None, Some, All, length, get_or, eqb, refl, sym, ap, ◌∙◌, subst, arith, length-append, length-drop}
use Rattle.std.specs.List.{AllByRecursion, IsDistinct, list_any}
use Rattle.std.proofs.Math.ListN.{set}
use Rattle.std.proofs.lemmas.Bool.{cases_eq, eqb-true}
use Rattle.std.proofs.lemmas.Int.{ints}
use Rattle.std.proofs.lemmas.List.{drop_more, get_or-set_other, get_or-set_same, get_or_append_left, get_or_push, length-map, length-reverse, length-set, map-append, reverse-append, take-append-drop}
use Rattle.std.proofs.lemmas.Map.Keys.{IsDistinct-cons}
use Rattle.std.proofs.lemmas.Map.Steps.{length-le_from_distinct_below}
use Rattle.std.proofs.lemmas.Option.{none-some, same_Some}
use Rattle.th_search.specs.Walks.{IsArc, IsNegativeCycle, IsWalk, arc_at, cost_of, entered_by}
use Rattle.tests_searches.specs.Levels.{AreLevels, Row, last_at, row_at, row_of, rows_of}
use Rattle.th_search.specs.declared.arcs.Arc.{Arc}
use Rattle.tests_searches.specs.declared.levels.Level.{Level}
use Rattle.th_search.proofs.CycleLemmas.{reverse_push}
use Rattle.th_search.proofs.DepthLemmas.{arc_is, each_is, none_twice}
use Rattle.tests_searches.proofs.TableLemmas.{cost_at, falls_over, lowered_before, row_read}

-- the arcs lead on from the vertex of this row, one row up with each, each the last arc there
abbrev pub IsTrail : List Arc → List Row → ℕ → ℕ → List ℕ → Type 0
IsTrail arcs rows k vertex [] = Unit {0}
IsTrail arcs rows k vertex (number ∷ trail) = (number < length arcs) × (vertex ≡ (arc_at arcs number).tail) × (last_at (row_at rows (suc k)) (arc_at arcs number).head ≡ Some number) × IsTrail arcs rows (suc k) (arc_at arcs number).head trail

-- the row of a level, counted from the last
pub row_back : (levels : List Level) (n place : ℕ) (level : Level) → length levels ≡ n + 1 → place < length levels → level ≡ get_or levels (length levels - 1 - place) level → row_at (rows_of levels) (n - place) ≡ row_of level
row_back levels n place level size within read =
    let same : n - place ≡ length levels - 1 - place = omega arith in
    ap (row_at (rows_of levels)) same ∙ row_read levels (length levels - 1 - place) level (omega arith) read

pub rows_size : (levels : List Level) (n : ℕ) → length levels ≡ n → length (rows_of levels) ≡ n
rows_size levels n size = length-map levels row_of ∙ size

-- the walk back has come to the vertex, n - place rows up, and the places tell which of its arcs enters a vertex
pub record IsGoingBack (n : ℕ) (arcs : List Arc) (rows : List Row) (walk : List ℕ) (places : List (Option ℕ)) (vertex place : ℕ) : Type 0 where
  pub within : vertex < n
  pub size : length walk ≡ place
  pub sizes : length places ≡ n
  pub trail : IsTrail arcs rows (n - place) vertex (reverse walk)
  pub once : IsDistinct eqb (entered_by arcs (reverse walk))
  pub below : AllByRecursion (λ q. q < n) (entered_by arcs (reverse walk))
  pub marked : (q : ℕ) → list_any (eqb q) (entered_by arcs (reverse walk)) ≡ true → get_or places q None ≢ None
  pub found : (q p : ℕ) → get_or places q None ≡ Some p → (p < place) × ((arc_at arcs (get_or walk p 0)).head ≡ q)
  pub lowered : place < n → last_at (row_at rows (n - place)) vertex ≢ None

pub back_first : (n : ℕ) (arcs : List Arc) (rows : List Row) (places : List (Option ℕ)) (from : ℕ) → from < n → length places ≡ n → ((q : ℕ) → get_or places q None ≡ None) → last_at (row_at rows n) from ≢ None → IsGoingBack n arcs rows [] places from 0
back_first n arcs rows places from within sizes none lowered = record {
  within = within;
  size = refl;
  sizes = sizes;
  trail = tt;
  once = none_twice;
  below = tt;
  marked = λ q has. absurd (cc);
  found = λ q p at. absurd (none-some p (sym (none q) ∙ at));
  lowered = λ some. subst (λ k. last_at (row_at rows k) from ≢ None) (omega arith) lowered;
}

-- no more arcs than vertices
pub back_few : (n : ℕ) (arcs : List Arc) (rows : List Row) (walk : List ℕ) (places : List (Option ℕ)) (vertex place : ℕ) → IsGoingBack n arcs rows walk places vertex place → place ≤ n
back_few n arcs rows walk places vertex place back =
    let few = length-le_from_distinct_below (entered_by arcs (reverse walk)) n back.once (each_is (λ q. q < n) (entered_by arcs (reverse walk)) back.below) in
    let size = back.size in
    let one = length-map (reverse walk) (λ number. (arc_at arcs number).head) in
    let two = length-reverse walk in
    omega arith

not_any : (q : ℕ) (xs : List ℕ) → (list_any (eqb q) xs ≡ true → ⊥) → AllByRecursion (λ y. eqb q y ≡ false) xs
not_any q [] none = tt
not_any q (x ∷ xs) none = by (eqb q x) refl none (not_any q xs)
  where
    by : (b : Bool) → eqb q x ≡ b → ((b || list_any (eqb q) xs) ≡ true → ⊥) → ((list_any (eqb q) xs ≡ true → ⊥) → AllByRecursion (λ y. eqb q y ≡ false) xs) → (eqb q x ≡ false) × AllByRecursion (λ y. eqb q y ≡ false) xs
    by true is never rest = absurd (never refl)
    by false is never rest = (is, rest never)

apart : (n : ℕ) (arcs : List Arc) (rows : List Row) (walk : List ℕ) (places : List (Option ℕ)) (vertex place : ℕ) → get_or places vertex None ≡ None → IsGoingBack n arcs rows walk places vertex place → IsDistinct eqb (vertex ∷ entered_by arcs (reverse walk))
apart n arcs rows walk places vertex place none back =
    IsDistinct-cons eqb vertex (entered_by arcs (reverse walk)) (not_any vertex (entered_by arcs (reverse walk)) (λ has. back.marked vertex has none)) back.once

-- and fewer where the vertex was not yet come to
pub back_fewer : (n : ℕ) (arcs : List Arc) (rows : List Row) (walk : List ℕ) (places : List (Option ℕ)) (vertex place : ℕ) → get_or places vertex None ≡ None → IsGoingBack n arcs rows walk places vertex place → place < n
back_fewer n arcs rows walk places vertex place none back =
    let heads = entered_by arcs (reverse walk) in
    let few = length-le_from_distinct_below (vertex ∷ heads) n (apart n arcs rows walk places vertex place none back) (each_is (λ q. q < n) (vertex ∷ heads) (back.within, back.below)) in
    let size = back.size in
    let one = length-map (reverse walk) (λ number. (arc_at arcs number).head) in
    let two = length-reverse walk in
    omega arith

-- its last arc is one of the arcs
pub back_within : (n : ℕ) (arcs : List Arc) (rows : List Row) (walk : List ℕ) (places : List (Option ℕ)) (vertex place number : ℕ) → AreLevels n arcs rows → length rows ≡ n + 1 → get_or places vertex None ≡ None → last_at (row_at rows (n - place)) vertex ≡ Some number → IsGoingBack n arcs rows walk places vertex place → number < length arcs
back_within n arcs rows walk places vertex place number levels size none at back =
    let few = back_fewer n arcs rows walk places vertex place none back in
    let up : n - place ≡ suc (n - (place + 1)) = omega arith in
    ((levels.next (n - (place + 1)) (omega arith)).fell vertex number (subst (λ k. last_at (row_at rows k) vertex ≡ Some number) up at)).within

-- the arc that leads to the vertex
pub back_next : (n : ℕ) (arcs : List Arc) (rows : List Row) (walk : List ℕ) (places : List (Option ℕ)) (vertex place number k : ℕ) → All (IsArc n) arcs → AreLevels n arcs rows → length rows ≡ n + 1 → n - place ≡ suc k → get_or places vertex None ≡ None → last_at (row_at rows (n - place)) vertex ≡ Some number → IsGoingBack n arcs rows walk places vertex place → IsGoingBack n arcs rows (walk ++ number ∷ []) (set places vertex (Some place)) (arc_at arcs number).tail (place + 1)
back_next n arcs rows walk places vertex place number k all levels size up none at back =
    let at_k : last_at (row_at rows (suc k)) vertex ≡ Some number = subst (λ j. last_at (row_at rows j) vertex ≡ Some number) up at in
    let falls = (levels.next k (omega arith)).fell vertex number at_k in
    let arc = arc_is n arcs number all falls.within in
    let head : (arc_at arcs number).head ≡ vertex = falls.head in
    let within = back.within in
    let sizes = back.sizes in
    let walk_size = back.size in
    let inside : vertex < length places = omega arith in
    let down : n - (place + 1) ≡ k = omega arith in
    let distinct = apart n arcs rows walk places vertex place none back in
    let more = length-append walk (number ∷ []) in
    let turned : reverse (walk ++ number ∷ []) ≡ number ∷ reverse walk = reverse_push walk number in
    let place_here : (q : ℕ) → q ≡ vertex → get_or (set places vertex (Some place)) q None ≡ Some place = λ q same. ap (λ q. get_or (set places vertex (Some place)) q None) same ∙ get_or-set_same places vertex (Some place) None inside in
    let place_else : (q : ℕ) → q ≢ vertex → get_or (set places vertex (Some place)) q None ≡ get_or places q None = λ q other. get_or-set_other places vertex q (Some place) None other in
    let trail : IsTrail arcs rows k (arc_at arcs number).tail (number ∷ reverse walk) = (falls.within, refl, subst (λ v. last_at (row_at rows (suc k)) v ≡ Some number) (sym head) at_k, subst (λ v. IsTrail arcs rows (suc k) v (reverse walk)) (sym head) (subst (λ j. IsTrail arcs rows j vertex (reverse walk)) up back.trail)) in
    record {
      within = arc.tail;
      size = omega arith;
      sizes = length-set places vertex (Some place) ∙ back.sizes;
      trail = subst (λ trail. IsTrail arcs rows (n - (place + 1)) (arc_at arcs number).tail trail) (sym turned) (subst (λ j. IsTrail arcs rows j (arc_at arcs number).tail (number ∷ reverse walk)) (sym down) trail);
      once = subst (λ trail. IsDistinct eqb (entered_by arcs trail)) (sym turned) (subst (λ v. IsDistinct eqb (v ∷ entered_by arcs (reverse walk))) (sym head) distinct);
      below = subst (λ trail. AllByRecursion (λ q. q < n) (entered_by arcs trail)) (sym turned) (arc.head, back.below);
      marked = λ q has missing. elim (cases_eq q vertex) [
        | inl same ↦ none-some place (sym missing ∙ place_here q same)
        | inr other ↦
            let older : list_any (eqb q) (entered_by arcs (reverse walk)) ≡ true = any_else q (arc_at arcs number).head (entered_by arcs (reverse walk)) (λ same. other (same ∙ head)) (subst (λ trail. list_any (eqb q) (entered_by arcs trail) ≡ true) turned has) in
            back.marked q older (sym (place_else q other) ∙ missing)
      ];
      found = λ q p at. elim (cases_eq q vertex) [
        | inl same ↦
            let one : place ≡ p = same_Some place p (sym (place_here q same) ∙ at) in
            (omega arith, ap (λ number. (arc_at arcs number).head) (get_or_push walk number 0 p (walk_size ∙ one)) ∙ head ∙ sym same)
        | inr other ↦
            let old = back.found q p (sym (place_else q other) ∙ at) in
            let before = old.0 in
            (omega arith, ap (λ number. (arc_at arcs number).head) (get_or_append_left walk (number ∷ []) 0 p (omega arith)) ∙ old.1)
      ];
      lowered = λ some. lowered_at k down at_k some;
    }
  where
    any_else : (q x : ℕ) (xs : List ℕ) → (q ≡ x → ⊥) → list_any (eqb q) (x ∷ xs) ≡ true → list_any (eqb q) xs ≡ true
    any_else q x xs other has = by (eqb q x) refl has
      where
        by : (b : Bool) → eqb q x ≡ b → (b || list_any (eqb q) xs) ≡ true → list_any (eqb q) xs ≡ true
        by true is more = absurd (other (eqb-true q x is))
        by false is more = more

    lowered_at : (k : ℕ) → n - (place + 1) ≡ k → last_at (row_at rows (suc k)) vertex ≡ Some number → place + 1 < n → last_at (row_at rows (n - (place + 1))) (arc_at arcs number).tail ≢ None
    lowered_at zero down at_k some = absurd (omega arith)
    lowered_at (suc j) down at_k some = subst (λ i. last_at (row_at rows i) (arc_at arcs number).tail ≢ None) (sym down) (lowered_before n arcs rows j vertex number levels (omega arith) at_k)

-- what a trail up to one of its arcs is: a walk, by whose cost the row's costs differ, and the arc is the last one there
record IsUp (arcs : List Arc) (rows : List Row) (k vertex level last : ℕ) (walk : List ℕ) : Type 0 where
  leads : IsWalk arcs vertex walk (arc_at arcs last).head
  costs : cost_at rows k vertex +ℤ cost_of arcs walk ≡ cost_at rows level (arc_at arcs last).head
  new : last_at (row_at rows level) (arc_at arcs last).head ≡ Some last

up : (n : ℕ) (arcs : List Arc) (rows : List Row) (k vertex level last : ℕ) (walk rest : List ℕ) → AreLevels n arcs rows → level ≡ k + length walk + 1 → level < length rows → IsTrail arcs rows k vertex ((walk ++ last ∷ []) ++ rest) → IsUp arcs rows k vertex level last (walk ++ last ∷ [])
up n arcs rows k vertex level last [] rest levels is within trail =
    let one : level ≡ suc k = omega arith in
    let at : last_at (row_at rows level) (arc_at arcs last).head ≡ Some last = subst (λ j. last_at (row_at rows j) (arc_at arcs last).head ≡ Some last) (sym one) trail.2 in
    let falls = ((levels.next k (omega arith)).fell (arc_at arcs last).head last trail.2).is in
    let same = ap (cost_at rows k) trail.1 in
    let row = ap (λ j. cost_at rows j (arc_at arcs last).head) one in
    record { leads = (trail.0, trail.1, refl); costs = omega (arith, ints); new = at }
up n arcs rows k vertex level last (number ∷ walk) rest levels is within trail =
    let above = up n arcs rows (suc k) (arc_at arcs number).head level last walk rest levels (omega arith) within trail.3 in
    let falls = ((levels.next k (omega arith)).fell (arc_at arcs number).head number trail.2).is in
    let same = ap (cost_at rows k) trail.1 in
    let rest_costs = above.costs in
    record { leads = (trail.0, trail.1, above.leads); costs = omega (arith, ints); new = above.new }

first_part : (e : ℕ → ℕ → Bool) (xs ys : List ℕ) → IsDistinct e (xs ++ ys) → IsDistinct e xs
unfolding IsDistinct
first_part e [] ys once = tt
first_part e (x ∷ xs) ys once = (all_first (λ y. e x y ≡ false) xs ys once.0, first_part e xs ys once.1)
  where
    all_first : (P : ℕ → Type 0) (xs ys : List ℕ) → AllByRecursion P (xs ++ ys) → AllByRecursion P xs
    all_first P [] ys all = tt
    all_first P (x ∷ xs) ys all = (all.0, all_first P xs ys all.1)

-- the part of the walk from a place on, turned round, and the rest of the walk turned round
turned_parts : (walk : List ℕ) (p : ℕ) → p < length walk → reverse walk ≡ (reverse (drop (p + 1) walk) ++ get_or walk p 0 ∷ []) ++ reverse (take p walk)
turned_parts walk p within =
    ap reverse (sym (take-append-drop p walk)) ∙ reverse-append (take p walk) (drop p walk) ∙ ap (λ part. reverse part ++ reverse (take p walk)) (drop_more walk p 0 within) ∙ ap (λ part. part ++ reverse (take p walk)) (reverse-append (get_or walk p 0 ∷ []) (drop (p + 1) walk))

pub turned_part : (walk : List ℕ) (p : ℕ) → p < length walk → reverse (drop p walk) ≡ reverse (drop (p + 1) walk) ++ get_or walk p 0 ∷ []
turned_part walk p within = ap reverse (drop_more walk p 0 within) ∙ reverse-append (get_or walk p 0 ∷ []) (drop (p + 1) walk)

-- once the vertex was come to before, the arcs since then are a cycle
pub back_closed : (n : ℕ) (arcs : List Arc) (rows : List Row) (walk : List ℕ) (places : List (Option ℕ)) (vertex place p : ℕ) → AreLevels n arcs rows → length rows ≡ n + 1 → get_or places vertex None ≡ Some p → IsGoingBack n arcs rows walk places vertex place → IsNegativeCycle arcs (reverse (drop p walk))
back_closed n arcs rows walk places vertex place p levels size at back =
    let last : ℕ = get_or walk p 0 in
    let part : List ℕ = reverse (drop (p + 1) walk) in
    let rest : List ℕ = reverse (take p walk) in
    let cycle : List ℕ = part ++ last ∷ [] in
    let found = back.found vertex p at in
    let earlier = found.0 in
    let walk_size = back.size in
    let few = back_few n arcs rows walk places vertex place back in
    let within : p < length walk = omega arith in
    let parts = turned_parts walk p within in
    let dropped = length-drop (p + 1) walk in
    let part_size = length-reverse (drop (p + 1) walk) in
    let trail : IsTrail arcs rows (n - place) vertex (cycle ++ rest) = subst (IsTrail arcs rows (n - place) vertex) parts back.trail in
    let below : ℕ = n - place + length part in
    let top = up n arcs rows (n - place) vertex (suc below) last part rest levels (omega arith) (omega arith) trail in
    let costs = top.costs in
    let less = ((levels.next below (omega arith)).fell (arc_at arcs last).head last top.new).less in
    let falls = falls_over n arcs rows (arc_at arcs last).head (n - place) (length part) levels (omega arith) in
    let same = ap (cost_at rows (n - place)) found.1 in
    let once : IsDistinct eqb (entered_by arcs cycle ++ entered_by arcs rest) = subst (IsDistinct eqb) (map-append (λ number. (arc_at arcs number).head) cycle rest) (subst (λ trail. IsDistinct eqb (entered_by arcs trail)) parts back.once) in
    let some = length-append part (last ∷ []) in
    subst (IsNegativeCycle arcs) (sym (turned_part walk p within)) (record {
      some = omega arith;
      closed = (vertex, subst (IsWalk arcs vertex cycle) found.1 top.leads);
      once = first_part eqb (entered_by arcs cycle) (entered_by arcs rest) once;
      negative = omega (arith, ints);
    })
