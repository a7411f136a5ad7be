-- Marks along the entries, for finding a vertex from which they lead back to itself.
use Rattle.std.proofs.Common.{◌≡◌, ◌≢◌, ℕ, zero, suc, ◌+◌, ◌-◌, ◌<◌, ◌≤◌, ◌⊎◌, inl, inr, List, Option, None, Some, length, refl, sym, ap, ◌∙◌, subst, arith}
use Rattle.std.proofs.Math.ListN.{set}
use Rattle.std.proofs.lemmas.Bool.{cases_eq, cases_lt}
use Rattle.std.proofs.lemmas.List.{get_or-set_other, get_or-set_same, get_or_past}
use Rattle.std.specs.List.{sum_by}
use Rattle.th_search.specs.Walks.{arc_at}
use Rattle.th_search.specs.Inside.Entries.{IsRooted, MeetsAfter, entry_at}
use Rattle.th_search.specs.Inside.Labels.{IsForest}
use Rattle.th_search.specs.Inside.Marks.{AreMarked, mark_at}
use Rattle.th_search.specs.declared.arcs.Arc.{Arc}
use Rattle.th_search.proofs.MeetsLemmas.{meets_more, rooted_before}

-- the way back from the start has come to the vertex: what it passed is marked with one more than the start, and leads to the vertex
pub record IsMarking (arcs : List Arc) (entries : List (Option ℕ)) (marks : List ℕ) (start vertex : ℕ) : Type 0 where
  pub within : vertex < length marks
  pub each : (v : ℕ) → v < start → mark_at marks v ≢ 0
  pub begun : (mark_at marks start ≢ 0) ⊎ (vertex ≡ start)
  pub most : (v : ℕ) → mark_at marks v ≤ start + 1
  pub rooted : (v : ℕ) → mark_at marks v ≢ 0 → mark_at marks v ≤ start → IsRooted arcs entries v
  pub led : (v : ℕ) → mark_at marks v ≡ start + 1 → (steps : ℕ) × MeetsAfter arcs entries (suc steps) v vertex

mark_here : (marks : List ℕ) (vertex mark v : ℕ) → vertex < length marks → v ≡ vertex → mark_at (set marks vertex mark) v ≡ mark
mark_here marks vertex mark v within same = ap (mark_at (set marks vertex mark)) same ∙ get_or-set_same marks vertex mark 0 within

mark_else : (marks : List ℕ) (vertex mark v : ℕ) → v ≢ vertex → mark_at (set marks vertex mark) v ≡ mark_at marks v
mark_else marks vertex mark v other = get_or-set_other marks vertex v mark 0 other

-- what a new mark changes for one vertex
still : (marks : List ℕ) (start vertex v : ℕ) → vertex < length marks → mark_at marks v ≢ 0 → mark_at (set marks vertex (start + 1)) v ≢ 0
still marks start vertex v within some =
    elim (cases_eq v vertex) [
      | inl same ↦ (let here = mark_here marks vertex (start + 1) v within same in λ none. absurd (omega arith))
      | inr other ↦ (let else_is = mark_else marks vertex (start + 1) v other in λ none. some (sym else_is ∙ none))
    ]

least : (marks : List ℕ) (start vertex v : ℕ) → vertex < length marks → ((v : ℕ) → mark_at marks v ≤ start + 1) → mark_at (set marks vertex (start + 1)) v ≤ start + 1
least marks start vertex v within most =
    elim (cases_eq v vertex) [
      | inl same ↦ (let here = mark_here marks vertex (start + 1) v within same in omega arith)
      | inr other ↦ (let else_is = mark_else marks vertex (start + 1) v other in let few = most v in omega arith)
    ]

earlier : (marks : List ℕ) (start vertex v : ℕ) → vertex < length marks → mark_at (set marks vertex (start + 1)) v ≤ start → mark_at (set marks vertex (start + 1)) v ≡ mark_at marks v
earlier marks start vertex v within few =
    elim (cases_eq v vertex) [
      | inl same ↦ (let here = mark_here marks vertex (start + 1) v within same in absurd (omega arith))
      | inr other ↦ mark_else marks vertex (start + 1) v other
    ]

begun_after : (arcs : List Arc) (entries : List (Option ℕ)) (marks : List ℕ) (start vertex : ℕ) → IsMarking arcs entries marks start vertex → mark_at (set marks vertex (start + 1)) start ≢ 0
begun_after arcs entries marks start vertex marking =
    elim marking.begun [
      | inl some ↦ still marks start vertex start marking.within some
      | inr at ↦ (let here = mark_here marks vertex (start + 1) start marking.within (sym at) in λ none. absurd (omega arith))
    ]

-- one vertex more
pub marking_next : (arcs : List Arc) (entries : List (Option ℕ)) (marks : List ℕ) (start vertex number : ℕ) → (arc_at arcs number).tail < length marks → entry_at entries vertex ≡ Some number → IsMarking arcs entries marks start vertex → (arc_at arcs number).tail < length (set marks vertex (start + 1)) → IsMarking arcs entries (set marks vertex (start + 1)) start (arc_at arcs number).tail
marking_next arcs entries marks start vertex number inside at marking there = record {
  within = there;
  each = λ v before. still marks start vertex v marking.within (marking.each v before);
  begun = inl (begun_after arcs entries marks start vertex marking);
  most = λ v. least marks start vertex v marking.within marking.most;
  rooted = λ v some few.
      let was = earlier marks start vertex v marking.within few in
      marking.rooted v (λ none. some (was ∙ none)) (omega arith);
  led = λ v is. elim (cases_eq v vertex) [
    | inl same ↦ (0, (number, ap (entry_at entries) same ∙ at, refl))
    | inr other ↦
        let before = marking.led v (sym (mark_else marks vertex (start + 1) v other) ∙ is) in
        (suc before.0, meets_more arcs entries (suc before.0) v vertex number at before.1)
  ];
}

-- the way back ends at a vertex that was not entered
pub marking_root : (arcs : List Arc) (entries : List (Option ℕ)) (marks : List ℕ) (start vertex : ℕ) → entry_at entries vertex ≡ None → IsMarking arcs entries marks start vertex → AreMarked arcs entries (set marks vertex (start + 1)) (start + 1)
marking_root arcs entries marks start vertex none marking =
    let root : IsRooted arcs entries vertex = (zero, none) in
    record {
      each = λ v before. elim (cases_eq v start) [
        | inl same ↦ subst (λ v. mark_at (set marks vertex (start + 1)) v ≢ 0) (sym same) (begun_after arcs entries marks start vertex marking)
        | inr other ↦ still marks start vertex v marking.within (marking.each v (omega arith))
      ];
      most = λ v. least marks start vertex v marking.within marking.most;
      rooted = λ v some. elim (cases_eq v vertex) [
        | inl same ↦ subst (IsRooted arcs entries) (sym same) root
        | inr other ↦
            let was = mark_else marks vertex (start + 1) v other in
            passed v (λ is. some (was ∙ is))
      ];
    }
  where
    passed : (v : ℕ) → mark_at marks v ≢ 0 → IsRooted arcs entries v
    passed v some = elim (cases_eq (mark_at marks v) (start + 1)) [
      | inl is ↦ (let way = marking.led v is in rooted_before arcs entries (suc way.0) v vertex (zero, none) way.1)
      | inr other ↦ (let few = marking.most v in marking.rooted v some (omega arith))
    ]

-- or at one that was marked from an earlier start
pub marking_met : (arcs : List Arc) (entries : List (Option ℕ)) (marks : List ℕ) (start vertex : ℕ) → mark_at marks vertex ≢ 0 → mark_at marks vertex ≢ start + 1 → IsMarking arcs entries marks start vertex → AreMarked arcs entries marks (start + 1)
marking_met arcs entries marks start vertex some other marking =
    record {
      each = λ v before. elim (cases_eq v start) [
        | inl same ↦ subst (λ v. mark_at marks v ≢ 0) (sym same) begun
        | inr apart ↦ marking.each v (omega arith)
      ];
      most = marking.most;
      rooted = λ v is. elim (cases_eq (mark_at marks v) (start + 1)) [
        | inl new ↦ (let way = marking.led v new in rooted_before arcs entries (suc way.0) v vertex root way.1)
        | inr apart ↦ (let few = marking.most v in marking.rooted v is (omega arith))
      ];
    }
  where
    begun : mark_at marks start ≢ 0
    begun = elim marking.begun [
      | inl is ↦ is
      | inr at ↦ subst (λ v. mark_at marks v ≢ 0) at some
    ]

    root : IsRooted arcs entries vertex
    root = let few = marking.most vertex in marking.rooted vertex some (omega arith)

-- how many vertices are not marked
abbrev pub unmarked : List ℕ → ℕ
unmarked marks = sum_by (λ mark. 1 - mark) marks

-- once all vertices are marked
pub marked_all : (arcs : List Arc) (entries : List (Option ℕ)) (marks : List ℕ) (count : ℕ) → length entries ≤ count → AreMarked arcs entries marks count → IsForest arcs entries
marked_all arcs entries marks count all marked v =
    elim (cases_lt v (length entries)) [
      | inl within ↦ marked.rooted v (marked.each v (omega arith))
      | inr past ↦ (zero, get_or_past entries v None past)
    ]
