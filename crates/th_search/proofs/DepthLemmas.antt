-- How far the entries lead back: no further than there are vertices.
use Rattle.std.proofs.Common.{◌≡◌, ◌≢◌, ℕ, zero, suc, ◌*◌, ◌<◌, ◌≤◌, Bool, true, false, ◌||◌, ℤ, pos, ◌+ℤ◌, ◌≤ℤ◌, List, [], ◌∷◌, inl, inr, Option, None, Some, All, length, eqb, unsigned_abs, refl, sym, ap, ◌∙◌, subst, arith}
use Rattle.std.specs.List.{AllByRecursion, IsDistinct, list_any}
use Rattle.std.specs.Option.{option_map_or}
use Rattle.std.proofs.lemmas.Bool.{cases_eq, eqb-true, ne_eqb}
use Rattle.std.proofs.lemmas.Int.{ints}
use Rattle.std.proofs.lemmas.List.{get_or-set_other, get_or-set_same}
use Rattle.std.proofs.lemmas.List.Elements.{All-get_or}
use Rattle.std.proofs.lemmas.Map.Keys.{IsDistinct-cons}
use Rattle.std.proofs.lemmas.Map.Steps.{length-le_from_distinct_below}
use Rattle.std.proofs.lemmas.Option.{none-some, same_Some}
use Rattle.th_search.specs.Walks.{IsArc, arc_at}
use Rattle.th_search.specs.Potentials.{value_at}
use Rattle.th_search.specs.Inside.Entries.{AreEntries, HasDepth, IsRooted, MeetsAfter, Meets, cut_at, depth_within, entry_at}
use Rattle.th_search.specs.Inside.Labels.{AreLabels}
use Rattle.th_search.specs.declared.arcs.Arc.{Arc}

-- a vertex has one depth
pub depth_unique : (arcs : List Arc) (entries : List (Option ℕ)) (d e vertex : ℕ) → HasDepth arcs entries d vertex → HasDepth arcs entries e vertex → d ≡ e
depth_unique arcs entries zero zero vertex h k = refl
depth_unique arcs entries zero (suc e) vertex h k = absurd (none-some k.0 (sym h ∙ k.1))
depth_unique arcs entries (suc d) zero vertex h k = absurd (none-some h.0 (sym k ∙ h.1))
depth_unique arcs entries (suc d) (suc e) vertex h k =
    let same : k.0 ≡ h.0 = same_Some k.0 h.0 (sym k.1 ∙ h.1) in
    ap suc (depth_unique arcs entries d e (arc_at arcs h.0).tail h.2 (subst (λ number. HasDepth arcs entries e (arc_at arcs number).tail) same k.2))

-- a vertex that was entered lies one deeper than the tail of the arc by which it was
pub depth_step : (arcs : List Arc) (entries : List (Option ℕ)) (d vertex number : ℕ) → HasDepth arcs entries d vertex → entry_at entries vertex ≡ Some number → (e : ℕ) × (d ≡ suc e) × HasDepth arcs entries e (arc_at arcs number).tail
depth_step arcs entries zero vertex number h at = absurd (none-some number (sym h ∙ at))
depth_step arcs entries (suc d) vertex number h at =
    let same : h.0 ≡ number = same_Some h.0 number (sym h.1 ∙ at) in
    (d, refl, subst (λ found. HasDepth arcs entries d (arc_at arcs found).tail) same h.2)

pub weaker : {X : Type 0} (P Q : X → Type 0) → ((x : X) → P x → Q x) → (xs : List X) → AllByRecursion P xs → AllByRecursion Q xs
weaker P Q h [] all = tt
weaker P Q h (x ∷ xs) all = (h x all.0, weaker P Q h xs all.1)

pub each_is : (P : ℕ → Type 0) (xs : List ℕ) → AllByRecursion P xs → (q : ℕ) → list_any (eqb q) xs ≡ true → P q
each_is P [] all q has = absurd (cc)
each_is P (x ∷ xs) all q has = by (eqb q x) refl has (each_is P xs all.1 q)
  where
    by : (b : Bool) → eqb q x ≡ b → (b || list_any (eqb q) xs) ≡ true → (list_any (eqb q) xs ≡ true → P q) → P q
    by true is more rest = subst P (sym (eqb-true q x is)) all.0
    by false is more rest = rest more

pub none_twice : IsDistinct eqb []
unfolding IsDistinct
none_twice = tt

-- the vertex is one of n, and no deeper than d
abbrev IsOnLine : ℕ → List Arc → List (Option ℕ) → ℕ → ℕ → Type 0
IsOnLine n arcs entries d q = (q < n) × ((e : ℕ) × (e ≤ d) × HasDepth arcs entries e q)

-- the vertices from one back to its start
line : (n : ℕ) (arcs : List Arc) (entries : List (Option ℕ)) → ((vertex number : ℕ) → entry_at entries vertex ≡ Some number → (arc_at arcs number).tail < n) → (d vertex : ℕ) → vertex < n → HasDepth arcs entries d vertex → (xs : List ℕ) × (length xs ≡ suc d) × IsDistinct eqb xs × AllByRecursion (IsOnLine n arcs entries d) xs
line n arcs entries tails zero vertex within h = (vertex ∷ [], refl, IsDistinct-cons eqb vertex [] tt none_twice, ((within, (zero, omega arith, h)), tt))
line n arcs entries tails (suc d) vertex within h =
    let rest = line n arcs entries tails d (arc_at arcs h.0).tail (tails vertex h.0 h.1) h.2 in (
      vertex ∷ rest.0,
      ap suc rest.1,
      IsDistinct-cons eqb vertex rest.0
          (weaker (IsOnLine n arcs entries d) (λ q. eqb vertex q ≡ false) (λ q on. ne_eqb vertex q (λ same.
          let one : suc d ≡ on.1.0 = depth_unique arcs entries (suc d) on.1.0 q (subst (HasDepth arcs entries (suc d)) same h) on.1.2 in
          let few = on.1.1 in
          omega arith)) rest.0 rest.3) rest.2,
      ((within, (suc d, omega arith, h)), weaker (IsOnLine n arcs entries d) (IsOnLine n arcs entries (suc d)) (λ q on. let few = on.1.1 in (on.0, (on.1.0, omega arith, on.1.2))) rest.0 rest.3),
    )

-- no vertex lies as deep as there are vertices
pub depth_below : (n : ℕ) (arcs : List Arc) (entries : List (Option ℕ)) → ((vertex number : ℕ) → entry_at entries vertex ≡ Some number → (arc_at arcs number).tail < n) → (d vertex : ℕ) → vertex < n → HasDepth arcs entries d vertex → d < n
depth_below n arcs entries tails d vertex within h =
    let xs = line n arcs entries tails d vertex within h in
    let most = length-le_from_distinct_below xs.0 n xs.2 (each_is (λ q. q < n) xs.0 (weaker (IsOnLine n arcs entries d) (λ q. q < n) (λ q on. on.0) xs.0 xs.3)) in
    let long = xs.1 in
    omega arith

-- what is counted is the depth, where there is fuel for it
pub depth_within_is : (arcs : List Arc) (entries : List (Option ℕ)) (fuel d vertex : ℕ) → HasDepth arcs entries d vertex → d ≤ fuel → depth_within arcs entries fuel vertex ≡ d
depth_within_is arcs entries zero d vertex h few = omega arith
depth_within_is arcs entries (suc fuel) zero vertex h few = ap (λ entry. option_map_or (λ number. suc (depth_within arcs entries fuel (arc_at arcs number).tail)) entry 0) h
depth_within_is arcs entries (suc fuel) (suc d) vertex h few =
    ap (λ entry. option_map_or (λ number. suc (depth_within arcs entries fuel (arc_at arcs number).tail)) entry 0) h.1 ∙ ap suc (depth_within_is arcs entries fuel d (arc_at arcs h.0).tail h.2 (omega arith))

-- an arc by its number
pub arc_is : (n : ℕ) (arcs : List Arc) (number : ℕ) → All (IsArc n) arcs → number < length arcs → IsArc n (arc_at arcs number)
arc_is n arcs number all within = All-get_or (IsArc n) arcs number (record { tail = 0; head = 0; cost = pos 0 }) within all

-- the tails of entries are vertices
abbrev pub HaveTails : ℕ → List Arc → List (Option ℕ) → Type 0
HaveTails n arcs entries = (vertex number : ℕ) → entry_at entries vertex ≡ Some number → (arc_at arcs number).tail < n

pub tails_of : (n : ℕ) (arcs : List Arc) (entries : List (Option ℕ)) → All (IsArc n) arcs → AreEntries n arcs entries → HaveTails n arcs entries
tails_of n arcs entries all are vertex number at = (arc_is n arcs number all (are.each vertex number at).within).tail

-- what is counted falls at each step back
pub falls_back : (n : ℕ) (arcs : List Arc) (entries : List (Option ℕ)) (vertex number : ℕ) → HaveTails n arcs entries → IsRooted arcs entries vertex → vertex < n → entry_at entries vertex ≡ Some number → depth_within arcs entries n (arc_at arcs number).tail < depth_within arcs entries n vertex
falls_back n arcs entries vertex number tails deep within at =
    let step = depth_step arcs entries deep.0 vertex number deep.1 at in
    let most = depth_below n arcs entries tails deep.0 vertex within deep.1 in
    let one = step.1 in
    let here = depth_within_is arcs entries n deep.0 vertex deep.1 (omega arith) in
    let there = depth_within_is arcs entries n step.0 (arc_at arcs number).tail step.2 (omega arith) in
    omega arith

-- without the entry of the goal, the entries lead back from where they met it to the goal and no further
pub cut_other : (entries : List (Option ℕ)) (goal v : ℕ) → v ≢ goal → entry_at (cut_at entries goal) v ≡ entry_at entries v
cut_other entries goal v other = get_or-set_other entries goal v None None other

pub cut_same : (entries : List (Option ℕ)) (goal v : ℕ) → goal < length entries → v ≡ goal → entry_at (cut_at entries goal) v ≡ None
cut_same entries goal v within same = ap (entry_at (cut_at entries goal)) same ∙ get_or-set_same entries goal None None within

cut_each : (entries : List (Option ℕ)) (goal v number : ℕ) → goal < length entries → entry_at (cut_at entries goal) v ≡ Some number → entry_at entries v ≡ Some number
cut_each entries goal v number within at =
    elim (cases_eq v goal) [
      | inl same ↦ absurd (none-some number (sym (cut_same entries goal v within same) ∙ at))
      | inr other ↦ sym (cut_other entries goal v other) ∙ at
    ]

pub cut_tails : (n : ℕ) (arcs : List Arc) (entries : List (Option ℕ)) (goal : ℕ) → goal < length entries → HaveTails n arcs entries → HaveTails n arcs (cut_at entries goal)
cut_tails n arcs entries goal within tails v number at = tails v number (cut_each entries goal v number within at)

cut_depth : (arcs : List Arc) (entries : List (Option ℕ)) (goal : ℕ) → goal < length entries → (steps v : ℕ) → MeetsAfter arcs entries steps v goal → IsRooted arcs (cut_at entries goal) v
cut_depth arcs entries goal within zero v met = (zero, cut_same entries goal v within met)
cut_depth arcs entries goal within (suc steps) v met =
    let rest = cut_depth arcs entries goal within steps (arc_at arcs met.0).tail met.2 in
    elim (cases_eq v goal) [
      | inl same ↦ (zero, cut_same entries goal v within same)
      | inr other ↦ (suc rest.0, (met.0, cut_other entries goal v other ∙ met.1, rest.1))
    ]

pub cut_rooted : (arcs : List Arc) (entries : List (Option ℕ)) (goal v : ℕ) → goal < length entries → Meets arcs entries v goal → IsRooted arcs (cut_at entries goal) v
cut_rooted arcs entries goal v within meets = cut_depth arcs entries goal within meets.0 v meets.1

-- what is counted without the entry of the goal falls at each step back to it
pub cut_falls : (n : ℕ) (arcs : List Arc) (entries : List (Option ℕ)) (goal vertex number : ℕ) → All (IsArc n) arcs → AreEntries n arcs entries → goal < length entries → vertex < n → vertex ≢ goal → entry_at entries vertex ≡ Some number → Meets arcs entries vertex goal → depth_within arcs (cut_at entries goal) n (arc_at arcs number).tail < depth_within arcs (cut_at entries goal) n vertex
cut_falls n arcs entries goal vertex number all are inside within other at meets =
    falls_back n arcs (cut_at entries goal) vertex number (cut_tails n arcs entries goal inside (tails_of n arcs entries all are)) (cut_rooted arcs entries goal vertex inside meets) within (cut_other entries goal vertex other ∙ at)

-- a value is below zero by no more than the depth times what bounds the costs
pub low : (arcs : List Arc) (values : List ℤ) (entries : List (Option ℕ)) (most : ℕ) → ((number : ℕ) → number < length arcs → unsigned_abs (arc_at arcs number).cost ≤ most) → AreLabels arcs values entries → (d vertex : ℕ) → HasDepth arcs entries d vertex → pos 0 ≤ℤ (value_at values vertex +ℤ pos (d * most))
low arcs values entries most costs labels zero vertex h =
    let none = labels.start vertex h in
    omega (arith, ints)
low arcs values entries most costs labels (suc d) vertex h =
    let entry = labels.entered.each vertex h.0 h.1 in
    let here = ap (value_at values) entry.head in
    let above = (labels.falls.1 vertex h.0 h.1).above in
    let cost = costs h.0 entry.within in
    let before = low arcs values entries most costs labels d (arc_at arcs h.0).tail h.2 in
    omega (arith, ints)
