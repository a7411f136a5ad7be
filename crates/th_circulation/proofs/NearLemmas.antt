-- Where arcs lead from vertex 0 to each vertex and back, numbers that keep their costs are near 0.
use Rattle.std.proofs.Common.{◌≡◌, ℕ, zero, suc, Bool, true, false, ◌+◌, ◌*◌, ◌<◌, ◌≤◌, ℤ, pos, ◌≤ℤ◌, ◌⊎◌, inl, inr, List, [], ◌∷◌, if◌then◌else◌, map, unsigned_abs, refl, ap, sym, ◌∙◌, arith}
use Rattle.std.proofs.lemmas.Grind.{merely}
use Rattle.std.proofs.lemmas.Int.{ints}
use Rattle.std.proofs.lemmas.List.Elements.{All-from_recursion, recursion_from_All}
use Rattle.std.specs.List.{AllByRecursion}
use lib.Signed.{lt_z}
use Rattle.th_search.specs.declared.arcs.Arc.{Arc}
use Rattle.th_search.specs.Walks.{IsArc}
use Rattle.th_circulation.specs.Inside.Residuals.{turned}
use Rattle.th_circulation.specs.Inside.Bounds.{farthest}
use Rattle.th_search.specs.Distances.{AreTight, IsKept, KeepCosts}
use Rattle.th_circulation.specs.Inside.Spans.{opposite}
use Rattle.th_circulation.proofs.MisreadLemmas.{lt_z-false}
use Rattle.th_network.specs.Limits.{max_points}
use Rattle.th_search.specs.Limits.{max_cost, max_vertices}

-- no arc enters the set
abbrev pub EntersNot : (ℕ → Bool) → Arc → Type 0
EntersNot inside arc = inside arc.head ≡ true → inside arc.tail ≡ true

-- a set of vertices that no arc enters, without vertex 0, is empty
abbrev pub AllEntered : ℕ → List Arc → Type 0
AllEntered n arcs = (inside : ℕ → Bool) → inside 0 ≡ false → AllByRecursion (EntersNot inside) arcs → (v : ℕ) → v < n → inside v ≡ false

-- ---- how many of the first n numbers are in a set
abbrev count_to : (ℕ → Bool) → ℕ → ℕ
count_to inside zero = 0
count_to inside (suc n) = (if inside n then 1 else 0) + count_to inside n

one_low : (b c : Bool) (m n : ℕ) → (b ≡ true → c ≡ true) → m ≤ n → ((if b then 1 else 0) + m) ≤ ((if c then 1 else 0) + n)
one_low true true m n in_both less = omega arith
one_low true false m n in_both less = absurd (let e = in_both refl in grind arith)
one_low false true m n in_both less = omega arith
one_low false false m n in_both less = omega arith

one_falls : (b c : Bool) (m n : ℕ) → (b ≡ true → c ≡ true) → m < n → ((if b then 1 else 0) + m) < ((if c then 1 else 0) + n)
one_falls true true m n in_both less = omega arith
one_falls true false m n in_both less = absurd (let e = in_both refl in grind arith)
one_falls false true m n in_both less = omega arith
one_falls false false m n in_both less = omega arith

one_gone : (b c : Bool) (m n : ℕ) → b ≡ false → c ≡ true → m ≤ n → ((if b then 1 else 0) + m) < ((if c then 1 else 0) + n)
one_gone true c m n out there less = absurd (grind arith)
one_gone false true m n out there less = omega arith
one_gone false false m n out there less = absurd (grind arith)

count_low : (inner outer : ℕ → Bool) (n : ℕ) → ((v : ℕ) → inner v ≡ true → outer v ≡ true) → count_to inner n ≤ count_to outer n
count_low inner outer zero in_both = omega arith
count_low inner outer (suc n) in_both = one_low (inner n) (outer n) (count_to inner n) (count_to outer n) (in_both n) (count_low inner outer n in_both)

count_falls : (inner outer : ℕ → Bool) (n u : ℕ) → ((v : ℕ) → inner v ≡ true → outer v ≡ true) → u < n → inner u ≡ false → outer u ≡ true → count_to inner n < count_to outer n
count_falls inner outer zero u in_both within out there = absurd (omega arith)
count_falls inner outer (suc n) u in_both within out there = by (last u n within) (λ earlier. count_falls inner outer n u in_both earlier out there)
  where
    last : (u n : ℕ) → u < suc n → (u < n) ⊎ (u ≡ n)
    last u n h = grind arith

    by : (u < n) ⊎ (u ≡ n) → (u < n → count_to inner n < count_to outer n) → count_to inner (suc n) < count_to outer (suc n)
    by (inl earlier) rest = one_falls (inner n) (outer n) (count_to inner n) (count_to outer n) (in_both n) (rest earlier)
    by (inr here) rest = one_gone (inner n) (outer n) (count_to inner n) (count_to outer n) (sym (ap inner here) ∙ out) (sym (ap outer here) ∙ there) (count_low inner outer n in_both)

count_none : (inside : ℕ → Bool) (n : ℕ) → ((v : ℕ) → v < n → inside v ≡ false) → count_to inside n ≡ 0
count_none inside zero none = refl
count_none inside (suc n) none = by (inside n) (none n (omega arith)) (count_none inside n (λ v h. none v (omega arith)))
  where
    by : (b : Bool) → b ≡ false → count_to inside n ≡ 0 → (if b then 1 else 0) + count_to inside n ≡ 0
    by true e rest = absurd (grind arith)
    by false e rest = omega arith

none_counted : (inside : ℕ → Bool) (n v : ℕ) → count_to inside n ≡ 0 → v < n → inside v ≡ false
none_counted inside zero v none within = absurd (omega arith)
none_counted inside (suc n) v none within = by (inside n) refl none (last v n within) (λ rest earlier. none_counted inside n v rest earlier)
  where
    last : (v n : ℕ) → v < suc n → (v < n) ⊎ (v ≡ n)
    last v n h = grind arith

    by : (b : Bool) → inside n ≡ b → (if b then 1 else 0) + count_to inside n ≡ 0 → (v < n) ⊎ (v ≡ n) → (count_to inside n ≡ 0 → v < n → inside v ≡ false) → inside v ≡ false
    by true e none h rest = absurd (omega arith)
    by false e none (inl earlier) rest = rest (omega arith) earlier
    by false e none (inr here) rest = ap inside here ∙ e

count_most : (inside : ℕ → Bool) (n : ℕ) → inside 0 ≡ false → count_to inside (suc n) ≤ n
count_most inside zero none = by (inside 0) none
  where
    by : (b : Bool) → b ≡ false → ((if b then 1 else 0) + 0) ≤ 0
    by true e = absurd (grind arith)
    by false e = omega arith
count_most inside (suc n) none = by (inside (suc n)) (count_most inside n none)
  where
    by : (b : Bool) → count_to inside (suc n) ≤ n → ((if b then 1 else 0) + count_to inside (suc n)) ≤ suc n
    by true rest = omega arith
    by false rest = omega arith

-- ---- an arc that enters a set, or none
find_entry : {P : Arc → Type 0} (inside : ℕ → Bool) (arcs : List Arc) → AllByRecursion P arcs → AllByRecursion (EntersNot inside) arcs ⊎ ((arc : Arc) × P arc × (inside arc.head ≡ true) × (inside arc.tail ≡ false))
find_entry inside [] all = inl tt
find_entry {P} inside (arc ∷ arcs) all = by (inside arc.head) (inside arc.tail) refl refl (find_entry inside arcs all.1)
  where
    by : (b c : Bool) → inside arc.head ≡ b → inside arc.tail ≡ c → AllByRecursion (EntersNot inside) arcs ⊎ ((arc : Arc) × P arc × (inside arc.head ≡ true) × (inside arc.tail ≡ false)) → AllByRecursion (EntersNot inside) (arc ∷ arcs) ⊎ ((arc : Arc) × P arc × (inside arc.head ≡ true) × (inside arc.tail ≡ false))
    by b c e h (inr found) = inr found
    by true true e h (inl none) = inl (λ there. h, none)
    by true false e h (inl none) = inr (arc, all.0, e, h)
    by false c e h (inl none) = inl (λ there. absurd (grind arith), none)

-- ---- bands: how many vertices are more than so many of the largest costs above 0
abbrev cost_limit : ℕ
cost_limit = max_cost

abbrev beyond : (ℕ → ℤ) → ℕ → ℕ → Bool
beyond numbers bands v = lt_z (pos (bands * cost_limit)) (numbers v)

record KeepsArc (n : ℕ) (numbers : ℕ → ℤ) (arc : Arc) : Type 0 where
  ends : IsArc n arc
  kept : IsKept numbers arc

within_band : (bands : ℕ) (z : ℤ) → lt_z (pos (bands * cost_limit)) z ≡ false → z ≤ℤ pos (bands * cost_limit)
within_band bands z e = lt_z-false (pos (bands * cost_limit)) z e

not_beyond : (bands : ℕ) (z : ℤ) → z ≤ℤ pos (bands * cost_limit) → lt_z (pos (bands * cost_limit)) z ≡ false
not_beyond bands z low = grind (arith, ints)

fewer_beyond : (numbers : ℕ → ℤ) (bands v : ℕ) → beyond numbers (suc bands) v ≡ true → beyond numbers bands v ≡ true
fewer_beyond numbers bands v e = by (numbers v) (beyond numbers bands v) refl e
  where
    by : (z : ℤ) (b : Bool) → lt_z (pos (bands * cost_limit)) z ≡ b → lt_z (pos (suc bands * cost_limit)) z ≡ true → b ≡ true
    by z true e h = refl
    by z false e h =
        let low = within_band bands z e in
        let none = not_beyond (suc bands) z (omega (arith, ints)) in
        absurd (grind arith)

band : (n : ℕ) (arcs : List Arc) (numbers : ℕ → ℤ) → 1 ≤ n → AllEntered n arcs → numbers 0 ≡ pos 0 → AllByRecursion (KeepsArc n numbers) arcs → (bands : ℕ) → (count_to (beyond numbers bands) n ≡ 0) ⊎ ((count_to (beyond numbers bands) n + bands + 1) ≤ n)
band zero arcs numbers some entered start keep zero = absurd (omega arith)
band (suc n) arcs numbers some entered start keep zero = inr (let most = count_most (beyond numbers 0) n (not_beyond 0 (numbers 0) (omega (arith, ints))) in omega arith)
band n arcs numbers some entered start keep (suc bands) = by (find_entry (beyond numbers bands) arcs keep) (band n arcs numbers some entered start keep bands)
  where
    by : AllByRecursion (EntersNot (beyond numbers bands)) arcs ⊎ ((arc : Arc) × KeepsArc n numbers arc × (beyond numbers bands arc.head ≡ true) × (beyond numbers bands arc.tail ≡ false)) → (count_to (beyond numbers bands) n ≡ 0) ⊎ ((count_to (beyond numbers bands) n + bands + 1) ≤ n) → (count_to (beyond numbers (suc bands)) n ≡ 0) ⊎ ((count_to (beyond numbers (suc bands)) n + suc bands + 1) ≤ n)
    by (inl none) before =
        let empty = count_none (beyond numbers bands) n (entered (beyond numbers bands) (not_beyond bands (numbers 0) (omega (arith, ints))) none) in
        let fewer = count_low (beyond numbers (suc bands)) (beyond numbers bands) n (fewer_beyond numbers bands) in
        inl (omega arith)
    by (inr entry) before =
        let arc = entry.0 in
        let inside = entry.1.ends.head in
        let cost = entry.1.ends.cost in
        let kept = entry.1.kept in
        let low = within_band bands (numbers arc.tail) entry.3 in
        let out = not_beyond (suc bands) (numbers arc.head) (omega (arith, ints)) in
        let falls = count_falls (beyond numbers (suc bands)) (beyond numbers bands) n arc.head (fewer_beyond numbers bands) inside out entry.2 in
        elim before [ inl empty ↦ inl (omega arith) | inr most ↦ inr (omega arith) ]

with_ends : (n : ℕ) (numbers : ℕ → ℤ) (arcs : List Arc) → AllByRecursion (IsArc n) arcs → AllByRecursion (IsKept numbers) arcs → AllByRecursion (KeepsArc n numbers) arcs
with_ends n numbers [] ends kept = tt
with_ends n numbers (arc ∷ arcs) ends kept = (record { ends = ends.0; kept = kept.0 }, with_ends n numbers arcs ends.1 kept.1)

high : (n : ℕ) (arcs : List Arc) (numbers : ℕ → ℤ) → 1 ≤ n → n ≤ max_vertices → AllByRecursion (IsArc n) arcs → AllEntered n arcs → KeepCosts arcs numbers → (v : ℕ) → v < n → numbers v ≤ℤ pos farthest
high n arcs numbers some few ends entered keep v within = within_band max_points (numbers v) (none_counted (beyond numbers max_points) n v (by (band n arcs numbers some entered keep.start (with_ends n numbers arcs ends (recursion_from_All (IsKept numbers) arcs keep.along)) max_points)) within)
  where
    by : (count_to (beyond numbers max_points) n ≡ 0) ⊎ ((count_to (beyond numbers max_points) n + max_points + 1) ≤ n) → count_to (beyond numbers max_points) n ≡ 0
    by (inl none) = none
    by (inr most) = omega arith

-- ---- arcs the other way round
kept_turned : (numbers : ℕ → ℤ) (arcs : List Arc) → AllByRecursion (IsKept numbers) arcs → AllByRecursion (IsKept (opposite numbers)) (map turned arcs)
kept_turned numbers [] kept = tt
kept_turned numbers (arc ∷ arcs) kept =
    let one = kept.0 in
    (omega (arith, ints), kept_turned numbers arcs kept.1)

kept_back : (numbers : ℕ → ℤ) (arcs : List Arc) → AllByRecursion (IsKept numbers) (map turned arcs) → AllByRecursion (IsKept (opposite numbers)) arcs
kept_back numbers [] kept = tt
kept_back numbers (arc ∷ arcs) kept =
    let one = kept.0 in
    (omega (arith, ints), kept_back numbers arcs kept.1)

pub keep_turned : (numbers : ℕ → ℤ) (arcs : List Arc) → KeepCosts arcs numbers → KeepCosts (map turned arcs) (opposite numbers)
keep_turned numbers arcs keep =
    let start = keep.start in
    record { start = omega (arith, ints); along = All-from_recursion (IsKept (opposite numbers)) (map turned arcs) (kept_turned numbers arcs (recursion_from_All (IsKept numbers) arcs keep.along)) }

pub keep_back : (numbers : ℕ → ℤ) (arcs : List Arc) → KeepCosts (map turned arcs) numbers → KeepCosts arcs (opposite numbers)
keep_back numbers arcs keep =
    let start = keep.start in
    record { start = omega (arith, ints); along = All-from_recursion (IsKept (opposite numbers)) arcs (kept_back numbers arcs (recursion_from_All (IsKept numbers) (map turned arcs) keep.along)) }

ends_turned : (n : ℕ) (arcs : List Arc) → AllByRecursion (IsArc n) arcs → AllByRecursion (IsArc n) (map turned arcs)
ends_turned n [] ends = tt
ends_turned n (arc ∷ arcs) ends = (record { tail = ends.0.head; head = ends.0.tail; cost = ends.0.cost }, ends_turned n arcs ends.1)

-- ---- all that distances need
pub record AreTied (n : ℕ) (arcs : List Arc) : Type 0 where
  pub some : 1 ≤ n
  pub few : n ≤ max_vertices
  pub ends : AllByRecursion (IsArc n) arcs
  pub out : AllEntered n arcs
  pub back : AllEntered n (map turned arcs)

near : (n : ℕ) (arcs : List Arc) → AreTied n arcs → (numbers : ℕ → ℤ) → KeepCosts arcs numbers → (v : ℕ) → v < n → unsigned_abs (numbers v) ≤ farthest
near n arcs tied numbers keep v within =
    let most = high n arcs numbers tied.some tied.few tied.ends tied.out keep v within in
    let least = high n (map turned arcs) (opposite numbers) tied.some tied.few (ends_turned n arcs tied.ends) tied.back (keep_turned numbers arcs keep) v within in
    omega (arith, ints)

pub tight : (n : ℕ) (arcs : List Arc) (known : ℕ → ℤ) → AreTied n arcs → KeepCosts arcs known → AreTight n arcs
tight n arcs known tied keep = record {
  some = tied.some;
  few = tied.few;
  ends = All-from_recursion (IsArc n) arcs tied.ends;
  known = merely (known, keep);
  near = near n arcs tied;
}

pub tight_turned : (n : ℕ) (arcs : List Arc) (known : ℕ → ℤ) → AreTied n arcs → KeepCosts arcs known → AreTight n (map turned arcs)
tight_turned n arcs known tied keep = record {
  some = tied.some;
  few = tied.few;
  ends = All-from_recursion (IsArc n) (map turned arcs) (ends_turned n arcs tied.ends);
  known = merely (opposite known, keep_turned known arcs keep);
  near = λ numbers kept v within. let back = near n arcs tied (opposite numbers) (keep_back numbers arcs kept) v within in omega (arith, ints);
}
