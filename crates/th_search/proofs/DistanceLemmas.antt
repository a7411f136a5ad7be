-- Labels that fall along arcs stay at or above all numbers that keep the costs; where no arc is shorter than they say, they keep the costs too.
use Rattle.std.proofs.Common.{◌≡◌, ℕ, zero, suc, ◌-◌, ◌<◌, ◌≤◌, ℤ, pos, ◌+ℤ◌, ◌-ℤ◌, ◌≤ℤ◌, List, [], ◌∷◌, All, length, replicate, unsigned_abs, refl, ap, ◌∙◌, subst, arith, length-set}
use Rattle.std.specs.Prelude.{◌<ℤ◌, slice_set}
use Rattle.std.proofs.lemmas.Grind.{not_there}
use Rattle.std.proofs.lemmas.Int.{ints, by_lt_z}
use Rattle.std.proofs.lemmas.List.{get_or_default, get_or-replicate, length-replicate}
use Rattle.std.proofs.lemmas.List.Sums.{sum_by-set}
use Rattle.th_search.specs.declared.arcs.Arc.{Arc}
use Rattle.th_search.specs.declared.sweeps.Sweep.{Sweep}
use Rattle.th_search.specs.declared.sweeps.Sweep.TheVariants.{Forwards, Backwards}
use Rattle.th_search.specs.Potentials.{value_at}
use Rattle.th_search.specs.Sweeps.{index_at}
use Rattle.th_search.specs.Walks.{IsArc, arc_at}
use Rattle.th_search.specs.Limits.{farthest}
use Rattle.th_search.specs.Distances.{AreDistances, AreTight, IsKept, KeepCosts}
use Rattle.th_search.specs.Inside.DistanceLabels.{AreLabels, room}
use Rattle.th_search.proofs.WithinLemmas.{all_within, set_any}

-- what holds of the number at a place that is set, and of the others
value_set : (P : ℤ → Type 0) (xs : List ℤ) (i : ℕ) (x : ℤ) (v : ℕ) → (v ≡ i → P x) → P (value_at xs v) → P (value_at (slice_set xs i x) v)
value_set P [] i x v here there = there
value_set P (y ∷ xs) zero x zero here there = here refl
value_set P (y ∷ xs) zero x (suc v) here there = there
value_set P (y ∷ xs) (suc i) x zero here there = there
value_set P (y ∷ xs) (suc i) x (suc v) here there = value_set P xs i x v (λ e. here (ap suc e)) there

pub arc_within : (vertices : ℕ) (arcs : List Arc) (number : ℕ) → AreTight vertices arcs → number < length arcs → IsArc vertices (arc_at arcs number)
arc_within vertices arcs number tight within = tight.ends number (record { tail = 0; head = 0; cost = pos 0 }) within

-- numbers that keep the costs are no higher at an arc's head than a label at the tail and the cost together
below_arc : (vertices : ℕ) (arcs : List Arc) (labels : List ℤ) (number : ℕ) (label : ℤ) → AreTight vertices arcs → AreLabels vertices arcs labels → number < length arcs → label ≡ value_at labels (arc_at arcs number).tail +ℤ (arc_at arcs number).cost → (numbers : ℕ → ℤ) → KeepCosts arcs numbers → numbers (arc_at arcs number).head ≤ℤ label
below_arc vertices arcs labels number label tight are within is numbers keep =
    let arc = arc_at arcs number in
    let kept = keep.along number (record { tail = 0; head = 0; cost = pos 0 }) within in
    let low = are.above numbers keep arc.tail (arc_within vertices arcs number tight within).tail in
    omega (arith, ints)

-- the label that falls is in range
pub in_range : (vertices : ℕ) (arcs : List Arc) (labels : List ℤ) (number : ℕ) (label : ℤ) → AreTight vertices arcs → AreLabels vertices arcs labels → number < length arcs → label ≡ value_at labels (arc_at arcs number).tail +ℤ (arc_at arcs number).cost → label <ℤ value_at labels (arc_at arcs number).head → unsigned_abs label ≤ farthest
in_range vertices arcs labels number label tight are within is less =
    let arc = arc_at arcs number in
    let ends = arc_within vertices arcs number tight within in
    let each = are.within.each in
    let inside = ends.head in
    let high = are.within.small arc.head (pos 0) (omega arith) in
    by_lt_z label (pos 0 -ℤ pos farthest) (λ low. absurd (not_there tight.known (λ known.
    let below = below_arc vertices arcs labels number label tight are within is known.0 known.1 in
    let near = tight.near known.0 known.1 arc.head inside in
    omega (arith, ints)))) (λ fits. omega (arith, ints))

pub lowered_labels : (vertices : ℕ) (arcs : List Arc) (labels : List ℤ) (number : ℕ) (label : ℤ) → AreTight vertices arcs → AreLabels vertices arcs labels → number < length arcs → label ≡ value_at labels (arc_at arcs number).tail +ℤ (arc_at arcs number).cost → label <ℤ value_at labels (arc_at arcs number).head → AreLabels vertices arcs (slice_set labels (arc_at arcs number).head label)
lowered_labels vertices arcs labels number label tight are within is less =
    let arc = arc_at arcs number in
    let small = in_range vertices arcs labels number label tight are within is less in
    let each = are.within.each in
    let start = are.start in
    record {
      within = all_within vertices farthest (slice_set labels arc.head label) (omega (arith, length-set labels arc.head label)) (λ v h. set_any farthest labels arc.head label v small (are.within.small v (pos 0) (omega arith)));
      start = value_set (λ z. z ≤ℤ pos 0) labels arc.head label 0 (λ e. let same = ap (value_at labels) e in omega (arith, ints)) start;
      above = λ numbers keep v h. value_set (λ z. numbers v ≤ℤ z) labels arc.head label v (λ e. let same = ap numbers e in let below = below_arc vertices arcs labels number label tight are within is numbers keep in omega (arith, ints)) (are.above numbers keep v h);
    }

pub lowered_room : (vertices : ℕ) (arcs : List Arc) (labels : List ℤ) (number : ℕ) (label : ℤ) → AreTight vertices arcs → AreLabels vertices arcs labels → number < length arcs → label ≡ value_at labels (arc_at arcs number).tail +ℤ (arc_at arcs number).cost → label <ℤ value_at labels (arc_at arcs number).head → room (slice_set labels (arc_at arcs number).head label) < room labels
lowered_room vertices arcs labels number label tight are within is less =
    let arc = arc_at arcs number in
    let small = in_range vertices arcs labels number label tight are within is less in
    let each = are.within.each in
    let inside = (arc_within vertices arcs number tight within).head in
    let high = are.within.small arc.head (pos 0) (omega arith) in
    let moved = sum_by-set (λ z. unsigned_abs (z +ℤ pos farthest)) labels arc.head label (pos 0) (omega arith) in
    let falls : unsigned_abs (label +ℤ pos farthest) < unsigned_abs (value_at labels arc.head +ℤ pos farthest) = omega (arith, ints) in
    omega arith

-- ---- before the first pass
pub first_labels : (vertices : ℕ) (arcs : List Arc) → AreTight vertices arcs → AreLabels vertices arcs (slice_set (replicate vertices (pos farthest)) 0 (pos 0))
first_labels vertices arcs tight =
    let some = tight.some in
    let labels = replicate vertices (pos farthest) in
    let at : (v : ℕ) → v < vertices → value_at labels v ≡ pos farthest = λ v h. get_or-replicate vertices v (pos farthest) (pos 0) h in
    record {
      within = all_within vertices farthest (slice_set labels 0 (pos 0)) (length-set labels 0 (pos 0) ∙ length-replicate vertices (pos farthest)) (λ v h. set_any farthest labels 0 (pos 0) v (omega (arith, ints)) (let is = at v h in omega (arith, ints)));
      start = here labels;
      above = λ numbers keep v h. value_set (λ z. numbers v ≤ℤ z) labels 0 (pos 0) v (λ e. let same = ap numbers e in let start = keep.start in omega (arith, ints)) (let is = at v h in let near = tight.near numbers keep v h in omega (arith, ints));
    }
  where
    here : (labels : List ℤ) → value_at (slice_set labels 0 (pos 0)) 0 ≤ℤ pos 0
    here [] = omega (arith, ints)
    here (label ∷ labels) = omega (arith, ints)

-- ---- after the last pass
pub distances_found : (vertices : ℕ) (arcs : List Arc) (labels : List ℤ) → AreTight vertices arcs → AreLabels vertices arcs labels → All (IsKept (value_at labels)) arcs → AreDistances vertices arcs labels
distances_found vertices arcs labels tight are kept =
    let some = tight.some in
    let start = are.start in
    record {
      within = are.within;
      keep = record {
        start = by_lt_z (value_at labels 0) (pos 0) (λ low. absurd (not_there tight.known (λ known.
            let above = are.above known.0 known.1 0 (omega arith) in
            let none = known.1.start in
            omega (arith, ints)))) (λ high. omega (arith, ints));
        along = kept;
      };
      greatest = are.above;
    }

-- a step leads to each arc
pub kept_from_steps : (arcs : List Arc) (labels : List ℤ) (sweep : Sweep) (steps : ℕ) → length arcs ≤ steps → ((k : ℕ) → k < steps → IsKept (value_at labels) (arc_at arcs (index_at sweep (length arcs) k))) → All (IsKept (value_at labels)) arcs
kept_from_steps arcs labels Forwards steps all each = λ k d within. subst (IsKept (value_at labels)) (get_or_default arcs k (record { tail = 0; head = 0; cost = pos 0 }) d within) (each k (omega arith))
kept_from_steps arcs labels Backwards steps all each = λ k d within.
    let back : length arcs - 1 - (length arcs - 1 - k) ≡ k = omega arith in
    let there : IsKept (value_at labels) (arc_at arcs (length arcs - 1 - (length arcs - 1 - k))) = each (length arcs - 1 - k) (omega arith) in
    subst (IsKept (value_at labels)) (ap (arc_at arcs) back ∙ get_or_default arcs k (record { tail = 0; head = 0; cost = pos 0 }) d within) there
