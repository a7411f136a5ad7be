-- The cycle over which the entries lead back, made from its last arc back.
use Rattle.std.proofs.Common.{◌≡◌, ◌≢◌, ℕ, suc, ◌<◌, ◌⊎◌, inl, inr, false, ℤ, ◌+ℤ◌, ◌≤ℤ◌, List, [], ◌∷◌, ◌++◌, reverse, Option, Some, All, length, eqb, refl, sym, ap, ◌∙◌, subst, arith}
use Rattle.std.specs.List.{AllByRecursion, IsDistinct}
use Rattle.std.proofs.lemmas.Bool.{ne_eqb}
use Rattle.std.proofs.lemmas.Int.{ints}
use Rattle.std.proofs.lemmas.List.{reverse-append}
use Rattle.std.proofs.lemmas.Map.Keys.{IsDistinct-cons}
use Rattle.th_search.specs.Walks.{IsArc, IsWalk, arc_at, cost_of, entered_by}
use Rattle.th_search.specs.Potentials.{value_at}
use Rattle.th_search.specs.Inside.Entries.{HasDepth, IsOnCycle, Meets, cut_at, entry_at}
use Rattle.th_search.specs.Inside.Labels.{AreLabels, Holds}
use Rattle.th_search.specs.declared.arcs.Arc.{Arc}
use Rattle.th_search.proofs.DepthLemmas.{arc_is, cut_other, cut_rooted, depth_unique, none_twice, weaker}
use Rattle.th_search.proofs.MeetsLemmas.{cycle_met, meets_next}

-- the vertex, or deeper than this
abbrev pub IsBehind : List Arc → List (Option ℕ) → ℕ → ℕ → ℕ → Type 0
IsBehind arcs entries goal depth q = (q ≡ goal) ⊎ ((e : ℕ) × (depth < e) × HasDepth arcs entries e q)

-- the vertices rank so
abbrev pub Rank : List Arc → List ℤ → List (Option ℕ) → (ℕ → ℕ) → Type 0
Rank arcs values entries rank = (vertex number : ℕ) → entry_at entries vertex ≡ Some number → Holds arcs values rank number

-- the walk leads from the vertex to the goal, and labels fall along it; the entries lead back from the vertex to the goal
pub record IsClosing (arcs : List Arc) (values : List ℤ) (entries : List (Option ℕ)) (goal vertex : ℕ) (walk : List ℕ) : Type 0 where
  pub within : vertex < length values
  pub some : 0 < length walk
  pub leads : IsWalk arcs vertex walk goal
  pub falls : (value_at values vertex +ℤ cost_of arcs walk) ≤ℤ value_at values goal
  pub ranked : (rank : ℕ → ℕ) → Rank arcs values entries rank → value_at values vertex +ℤ cost_of arcs walk ≡ value_at values goal → rank vertex < rank goal
  pub once : IsDistinct eqb (entered_by arcs walk)
  pub behind : (depth : ℕ) → HasDepth arcs (cut_at entries goal) depth vertex → AllByRecursion (IsBehind arcs (cut_at entries goal) goal depth) (entered_by arcs walk)
  pub meets : Meets arcs entries vertex goal

pub closing_first : (arcs : List Arc) (values : List ℤ) (entries : List (Option ℕ)) (goal number : ℕ) → All (IsArc (length values)) arcs → AreLabels arcs values entries → entry_at entries goal ≡ Some number → IsOnCycle arcs entries goal → IsClosing arcs values entries goal (arc_at arcs number).tail (number ∷ [])
closing_first arcs values entries goal number all labels at cycle =
    let entry = labels.entered.each goal number at in
    let above = (labels.falls.1 goal number at).above in
    let here = ap (value_at values) entry.head in
    record {
      within = (arc_is (length values) arcs number all entry.within).tail;
      some = omega arith;
      leads = (entry.within, refl, entry.head);
      falls = omega (arith, ints);
      ranked = λ rank holds same.
          let level : value_at values (arc_at arcs number).tail +ℤ (arc_at arcs number).cost ≡ value_at values (arc_at arcs number).head = omega (arith, ints) in
          subst (λ v. rank (arc_at arcs number).tail < rank v) entry.head ((holds goal number at).ranked level);
      once = IsDistinct-cons eqb (arc_at arcs number).head [] tt none_twice;
      behind = λ depth deep. (inl entry.head, tt);
      meets = cycle_met arcs entries goal number at cycle;
    }

-- what is behind is another vertex than the one that is entered now
other_than : (arcs : List Arc) (entries : List (Option ℕ)) (goal vertex depth : ℕ) → vertex ≢ goal → HasDepth arcs entries depth vertex → ((e : ℕ) → HasDepth arcs entries e vertex → depth ≡ e) → (entered : ℕ) → entered ≡ vertex → (q : ℕ) → IsBehind arcs entries goal depth q → eqb entered q ≡ false
other_than arcs entries goal vertex depth other deep one entered is q behind =
    ne_eqb entered q (λ same. elim behind [
      | inl at ↦ other (sym is ∙ same ∙ at)
      | inr far ↦
          let e = one far.0 (subst (HasDepth arcs entries far.0) (sym same ∙ is) far.2) in
          let less = far.1 in
          omega arith
    ])

nearer : (arcs : List Arc) (entries : List (Option ℕ)) (goal depth q : ℕ) → IsBehind arcs entries goal (suc depth) q → IsBehind arcs entries goal depth q
nearer arcs entries goal depth q behind =
    elim behind [
      | inl at ↦ inl at
      | inr far ↦ inr (let less = far.1 in (far.0, omega arith, far.2))
    ]

pub closing_next : (arcs : List Arc) (values : List ℤ) (entries : List (Option ℕ)) (goal vertex number : ℕ) (walk : List ℕ) → All (IsArc (length values)) arcs → AreLabels arcs values entries → goal < length entries → vertex ≢ goal → entry_at entries vertex ≡ Some number → IsClosing arcs values entries goal vertex walk → IsClosing arcs values entries goal (arc_at arcs number).tail (number ∷ walk)
closing_next arcs values entries goal vertex number walk all labels inside other at closing =
    let entry = labels.entered.each vertex number at in
    let above = (labels.falls.1 vertex number at).above in
    let here = ap (value_at values) entry.head in
    let falls = closing.falls in
    let cut = cut_at entries goal in
    let there : entry_at cut vertex ≡ Some number = cut_other entries goal vertex other ∙ at in
    let deep = cut_rooted arcs entries goal vertex inside closing.meets in
    record {
      within = (arc_is (length values) arcs number all entry.within).tail;
      some = omega arith;
      leads = (entry.within, refl, subst (λ v. IsWalk arcs v walk goal) (sym entry.head) closing.leads);
      falls = omega (arith, ints);
      ranked = λ rank holds same.
          let level : value_at values (arc_at arcs number).tail +ℤ (arc_at arcs number).cost ≡ value_at values (arc_at arcs number).head = omega (arith, ints) in
          let level_after : value_at values vertex +ℤ cost_of arcs walk ≡ value_at values goal = omega (arith, ints) in
          let first : rank (arc_at arcs number).tail < rank vertex = subst (λ v. rank (arc_at arcs number).tail < rank v) entry.head ((holds vertex number at).ranked level) in
          let rest = closing.ranked rank holds level_after in
          omega arith;
      once = IsDistinct-cons eqb (arc_at arcs number).head (entered_by arcs walk)
          (weaker (IsBehind arcs cut goal deep.0) (λ q. eqb (arc_at arcs number).head q ≡ false) (other_than arcs cut goal vertex deep.0 other deep.1 (λ e. depth_unique arcs cut deep.0 e vertex deep.1) (arc_at arcs number).head entry.head) (entered_by arcs walk) (closing.behind deep.0 deep.1))
          closing.once;
      behind = λ depth tail.
          let further : HasDepth arcs cut (suc depth) vertex = (number, there, tail) in (
            inr (suc depth, omega arith, subst (HasDepth arcs cut (suc depth)) (sym entry.head) further),
            weaker (IsBehind arcs cut goal (suc depth)) (IsBehind arcs cut goal depth) (nearer arcs cut goal depth) (entered_by arcs walk) (closing.behind (suc depth) further),
          );
      meets = meets_next arcs entries vertex number goal at other closing.meets;
    }

-- an arc more is one more in front
pub reverse_push : (xs : List ℕ) (x : ℕ) → reverse (xs ++ x ∷ []) ≡ x ∷ reverse xs
reverse_push xs x = reverse-append xs (x ∷ [])
