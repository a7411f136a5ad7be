-- What lowering a label leaves.
use Rattle.std.proofs.Common.{◌≡◌, ◌≢◌, ℕ, zero, suc, ◌+◌, ◌-◌, ◌<◌, ◌≤◌, inl, inr, cond, ℤ, pos, ◌+ℤ◌, ◌≤ℤ◌, ◌<ℤ◌, List, Option, None, Some, All, length, eqb, unsigned_abs, refl, sym, ap, ◌∙◌, subst, arith}
use Rattle.std.proofs.Math.ListN.{set}
use Rattle.std.proofs.lemmas.Bool.{cases_eq, cases_lt, eq-eqb, ne_eqb}
use Rattle.std.proofs.lemmas.Int.{ints}
use Rattle.std.proofs.lemmas.List.{length-set, get_or-set_other, get_or-set_same, get_or_past}
use Rattle.std.proofs.lemmas.List.Sums.{sum_by-set}
use Rattle.std.proofs.lemmas.Option.{none-some, same_Some}
use Rattle.th_search.specs.Limits.{max_cost, max_vertices}
use Rattle.th_search.specs.Walks.{IsArc, arc_at}
use Rattle.th_search.specs.Potentials.{value_at}
use Rattle.th_search.specs.Inside.Bounds.{most_between, most_within}
use Rattle.th_search.specs.Inside.Entries.{AreEntries, IsEntry, IsOnCycle, Meets, MeetsAfter, entry_at}
use Rattle.th_search.specs.Inside.Labels.{AreLabels, Holds, Improves, IsForest, room}
use Rattle.th_search.specs.declared.arcs.Arc.{Arc}
use Rattle.th_search.proofs.DepthLemmas.{arc_is, depth_below, low, tails_of}
use Rattle.th_search.proofs.MeetsLemmas.{cycle_closed}

-- what stands at the head, and what elsewhere
value_here : (values : List ℤ) (head : ℕ) (label : ℤ) → head < length values → (w : ℕ) → w ≡ head → value_at (set values head label) w ≡ label
value_here values head label within w same = ap (value_at (set values head label)) same ∙ get_or-set_same values head label (pos 0) within

value_else : (values : List ℤ) (head : ℕ) (label : ℤ) (w : ℕ) → w ≢ head → value_at (set values head label) w ≡ value_at values w
value_else values head label w other = get_or-set_other values head w label (pos 0) other

entry_here : (entries : List (Option ℕ)) (head number : ℕ) → head < length entries → (w : ℕ) → w ≡ head → entry_at (set entries head (Some number)) w ≡ Some number
entry_here entries head number within w same = ap (entry_at (set entries head (Some number))) same ∙ get_or-set_same entries head (Some number) None within

entry_else : (entries : List (Option ℕ)) (head number w : ℕ) → w ≢ head → entry_at (set entries head (Some number)) w ≡ entry_at entries w
entry_else entries head number w other = get_or-set_other entries head w (Some number) None other

-- values only fall
fallen : (values : List ℤ) (head : ℕ) (label : ℤ) → head < length values → label <ℤ value_at values head → (w : ℕ) → value_at (set values head label) w ≤ℤ value_at values w
fallen values head label within below w =
    elim (cases_eq w head) [
      | inl same ↦
          let there = value_here values head label within w same in
          let was = ap (value_at values) same in
          omega (arith, ints)
      | inr other ↦
          let there = value_else values head label w other in
          omega (arith, ints)
    ]

-- the head ranks just above the tail
abbrev rank_after : (ℕ → ℕ) → ℕ → ℕ → ℕ → ℕ
rank_after rank tail head w = cond (eqb w head) (suc (rank tail)) (rank w)

rank_here : (rank : ℕ → ℕ) (tail head w : ℕ) → w ≡ head → rank_after rank tail head w ≡ suc (rank tail)
rank_here rank tail head w same = ap (λ b. cond b (suc (rank tail)) (rank w)) (eq-eqb w head same)

rank_else : (rank : ℕ → ℕ) (tail head w : ℕ) → w ≢ head → rank_after rank tail head w ≡ rank w
rank_else rank tail head w other = ap (λ b. cond b (suc (rank tail)) (rank w)) (ne_eqb w head other)

-- the new entry
new_holds : (arcs : List Arc) (values : List ℤ) (rank : ℕ → ℕ) (number : ℕ) (label : ℤ) → (arc_at arcs number).head < length values → Improves arcs values number label → Holds arcs (set values (arc_at arcs number).head label) (rank_after rank (arc_at arcs number).tail (arc_at arcs number).head) number
new_holds arcs values rank number label within improves =
    let arc = arc_at arcs number in
    let is = improves.is in
    let below = improves.below in
    let there = value_here values arc.head label within arc.head refl in
    elim (cases_eq arc.tail arc.head) [
      | inl same ↦
          let tail = value_here values arc.head label within arc.tail same in
          let was = ap (value_at values) same in
          record { above = omega (arith, ints); ranked = λ level. absurd (omega (arith, ints)) }
      | inr other ↦
          let tail = value_else values arc.head label arc.tail other in
          record {
            above = omega (arith, ints);
            ranked = λ level.
                let lower = rank_else rank arc.tail arc.head arc.tail other in
                let higher = rank_here rank arc.tail arc.head arc.head refl in
                omega arith;
          }
    ]

-- an old one
old_holds : (arcs : List Arc) (values : List ℤ) (rank : ℕ → ℕ) (tail head : ℕ) (label : ℤ) → head < length values → label <ℤ value_at values head → (a : ℕ) → (arc_at arcs a).head ≢ head → Holds arcs values rank a → Holds arcs (set values head label) (rank_after rank tail head) a
old_holds arcs values rank tail head label within below a other holds =
    let arc = arc_at arcs a in
    let above = holds.above in
    let there = value_else values head label arc.head other in
    let higher = rank_else rank tail head arc.head other in
    elim (cases_eq arc.tail head) [
      | inl same ↦
          let fell = value_here values head label within arc.tail same in
          let was = ap (value_at values) same in
          record { above = omega (arith, ints); ranked = λ level. absurd (omega (arith, ints)) }
      | inr apart ↦
          let kept = value_else values head label arc.tail apart in
          let lower = rank_else rank tail head arc.tail apart in
          record {
            above = omega (arith, ints);
            ranked = λ level.
                let was : value_at values arc.tail +ℤ arc.cost ≡ value_at values arc.head = omega (arith, ints) in
                let less = holds.ranked was in
                omega arith;
          }
    ]

-- entries stay entries
entered_after : (n : ℕ) (arcs : List Arc) (entries : List (Option ℕ)) (number : ℕ) → (arc_at arcs number).head < length entries → number < length arcs → AreEntries n arcs entries → AreEntries n arcs (set entries (arc_at arcs number).head (Some number))
entered_after n arcs entries number there within are =
    let head = (arc_at arcs number).head in
    record {
      size = length-set entries head (Some number) ∙ are.size;
      each = λ v a at. elim (cases_eq v head) [
        | inl same ↦
            let one : number ≡ a = same_Some number a (sym (entry_here entries head number there v same) ∙ at) in
            subst (IsEntry arcs v) one (record { within = within; head = sym same })
        | inr other ↦ are.each v a (sym (entry_else entries head number v other) ∙ at)
      ];
    }

-- labels of zero that nothing entered
pub labels_first : (arcs : List Arc) (values : List ℤ) (entries : List (Option ℕ)) → length entries ≡ length values → ((v : ℕ) → value_at values v ≡ pos 0) → ((v : ℕ) → entry_at entries v ≡ None) → AreLabels arcs values entries
labels_first arcs values entries size zeros none = record {
  entered = record { size = size; each = λ v number at. absurd (none-some number (sym (none v) ∙ at)) };
  start = λ v is. zeros v;
  high = λ v. let is = zeros v in omega (arith, ints);
  falls = (λ v. 0, λ v number at. absurd (none-some number (sym (none v) ∙ at)));
}

-- labels stay labels
pub lowered : (arcs : List Arc) (values : List ℤ) (entries : List (Option ℕ)) (number : ℕ) (label : ℤ) → All (IsArc (length values)) arcs → AreLabels arcs values entries → number < length arcs → Improves arcs values number label → AreLabels arcs (set values (arc_at arcs number).head label) (set entries (arc_at arcs number).head (Some number))
lowered arcs values entries number label all labels within improves =
    let head : ℕ = (arc_at arcs number).head in
    let tail : ℕ = (arc_at arcs number).tail in
    let here = (arc_is (length values) arcs number all within).head in
    let same_size = labels.entered.size in
    let there : head < length entries = omega arith in
    record {
      entered = subst (λ n. AreEntries n arcs (set entries head (Some number))) (sym (length-set values head label)) (entered_after (length values) arcs entries number there within labels.entered);
      start = λ v none. elim (cases_eq v head) [
        | inl same ↦ absurd (none-some number (sym none ∙ entry_here entries head number there v same))
        | inr other ↦ value_else values head label v other ∙ labels.start v (sym (entry_else entries head number v other) ∙ none)
      ];
      high = λ v. let less = fallen values head label here improves.below v in let was = labels.high v in omega (arith, ints);
      falls = (
        rank_after labels.falls.0 tail head,
        λ v a at. elim (cases_eq v head) [
          | inl same ↦
              let one : number ≡ a = same_Some number a (sym (entry_here entries head number there v same) ∙ at) in
              subst (Holds arcs (set values head label) (rank_after labels.falls.0 tail head)) one (new_holds arcs values labels.falls.0 number label here improves)
          | inr other ↦
              let was : entry_at entries v ≡ Some a = sym (entry_else entries head number v other) ∙ at in
              let at_v = (labels.entered.each v a was).head in
              old_holds arcs values labels.falls.0 tail head label here improves.below a (λ same. other (sym at_v ∙ same)) (labels.falls.1 v a was)
        ],
      );
    }

-- what met the head still meets it
met_after : (arcs : List Arc) (entries : List (Option ℕ)) (head number : ℕ) → (steps w : ℕ) → MeetsAfter arcs entries steps w head → Meets arcs (set entries head (Some number)) w head
met_after arcs entries head number zero w met = (zero, met)
met_after arcs entries head number (suc steps) w met =
    let rest = met_after arcs entries head number steps (arc_at arcs met.0).tail met.2 in
    elim (cases_eq w head) [
      | inl same ↦ (zero, same)
      | inr other ↦ (suc rest.0, (met.0, entry_else entries head number w other ∙ met.1, rest.1))
    ]

-- an entry whose tail met its head closes a cycle
pub closed_after : (arcs : List Arc) (entries : List (Option ℕ)) (number : ℕ) → (arc_at arcs number).head < length entries → Meets arcs entries (arc_at arcs number).tail (arc_at arcs number).head → IsOnCycle arcs (set entries (arc_at arcs number).head (Some number)) (arc_at arcs number).head
closed_after arcs entries number within met =
    cycle_closed arcs (set entries (arc_at arcs number).head (Some number)) (arc_at arcs number).head number (entry_here entries (arc_at arcs number).head number within (arc_at arcs number).head refl) (met_after arcs entries (arc_at arcs number).head number met.0 (arc_at arcs number).tail met.1)

-- no value is larger
abbrev pub AreWithin : List ℤ → ℕ → Type 0
AreWithin values most = (v : ℕ) → unsigned_abs (value_at values v) ≤ most

-- where all entries end, a value is in range
pub values_within : (arcs : List Arc) (values : List ℤ) (entries : List (Option ℕ)) → All (IsArc (length values)) arcs → length values ≤ max_vertices → AreLabels arcs values entries → IsForest arcs entries → AreWithin values most_between
values_within arcs values entries all few labels forest v =
    elim (cases_lt v (length values)) [
      | inl within ↦
          let deep = forest v in
          let most = depth_below (length values) arcs entries (tails_of (length values) arcs entries all labels.entered) deep.0 v within deep.1 in
          let least = low arcs values entries max_cost (λ k inside. (arc_is (length values) arcs k all inside).cost) labels deep.0 v deep.1 in
          let high = labels.high v in
          omega (arith, ints)
      | inr past ↦
          let none = get_or_past values v (pos 0) past in
          omega (arith, ints)
    ]

-- a label that an arc gives is larger by no more than the arc's cost
pub label_within : (arcs : List Arc) (values : List ℤ) (number most : ℕ) → All (IsArc (length values)) arcs → AreWithin values most → number < length arcs → unsigned_abs (value_at values (arc_at arcs number).tail +ℤ (arc_at arcs number).cost) ≤ most + max_cost
label_within arcs values number most all sized within =
    let size = sized (arc_at arcs number).tail in
    let cost : unsigned_abs (arc_at arcs number).cost ≤ max_cost = (arc_is (length values) arcs number all within).cost in
    omega (arith, ints)

-- and so are all values after it
pub within_after : (arcs : List Arc) (values : List ℤ) (number most : ℕ) (label : ℤ) → All (IsArc (length values)) arcs → AreWithin values most → number < length arcs → Improves arcs values number label → AreWithin (set values (arc_at arcs number).head label) (most + max_cost)
within_after arcs values number most label all sized within improves v =
    let here = (arc_is (length values) arcs number all within).head in
    let size : unsigned_abs label ≤ most + max_cost = subst (λ z. unsigned_abs z ≤ most + max_cost) (sym improves.is) (label_within arcs values number most all sized within) in
    elim (cases_eq v (arc_at arcs number).head) [
      | inl same ↦ subst (λ z. unsigned_abs z ≤ most + max_cost) (sym (value_here values (arc_at arcs number).head label here v same)) size
      | inr other ↦
          let kept = value_else values (arc_at arcs number).head label v other in
          let was = sized v in
          subst (λ z. unsigned_abs z ≤ most + max_cost) (sym kept) (omega arith)
    ]

-- the room falls
pub room_falls : (arcs : List Arc) (values : List ℤ) (entries : List (Option ℕ)) (number most : ℕ) (label : ℤ) → All (IsArc (length values)) arcs → most + max_cost ≤ most_within → AreWithin values most → AreLabels arcs values entries → number < length arcs → Improves arcs values number label → room (set values (arc_at arcs number).head label) < room values
room_falls arcs values entries number most label all few sized labels within improves =
    let here = (arc_is (length values) arcs number all within).head in
    let size : unsigned_abs label ≤ most + max_cost = subst (λ z. unsigned_abs z ≤ most + max_cost) (sym improves.is) (label_within arcs values number most all sized within) in
    let high = labels.high (arc_at arcs number).head in
    let below = improves.below in
    let sums = sum_by-set (λ value. most_within - unsigned_abs value) values (arc_at arcs number).head label (pos 0) here in
    omega (arith, ints)
