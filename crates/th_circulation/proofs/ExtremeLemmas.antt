-- What flows that show heights bound, and how near zero heights of little cost are.
use Rattle.std.proofs.Common.{◌≡◌, ℕ, Bool, true, false, ◌||◌, ◌+◌, ◌*◌, ◌≤◌, ℤ, pos, ◌+ℤ◌, ◌-ℤ◌, ◌≤ℤ◌, inl, inr, List, [], ◌∷◌, Option, Some, None, IsSome, All, Contains, bytes_eq, unsigned_abs, refl, ap, mul-le-mul_right, arith}
use Rattle.std.specs.Prelude.{◌<ℤ◌}
use Rattle.std.proofs.lemmas.Int.{ints, by_lt_z}
use Rattle.std.proofs.lemmas.List.Sums.{sum_by-cons}
use Rattle.std.proofs.lemmas.List.Elements.{All-contains, All-from_recursion, All-head, All-tail}
use Rattle.std.proofs.lemmas.Slice.Eq.{bytes_eq-Decides}
use Rattle.std.specs.List.{AllZip, AllByRecursion}
use lib.Signed.{lt_z}
use Rattle.th_observations.specs.Observed.{Observed}
use Rattle.th_tables.specs.Rows.{BenchmarkRows, WeightRows, height_of, weight_of}
use Rattle.th_network.specs.Walks.{Leads, IsTied}
use Rattle.th_network.specs.Heights.{IsHeights, residual, cost}
use Rattle.th_points.proofs.PointLemmas.{is_among, bytes_eq_same}
use Rattle.th_circulation.proofs.SideLemmas.{IsFull, AreFull}
use Rattle.th_circulation.proofs.MisreadLemmas.{lt_z-true, lt_z-false}
use Rattle.th_circulation.proofs.Bounds.{Bound, KeepsAll}

-- ---- flows show the heights that keep these bounds: the target is so far above the station where the flow can grow, and no further where it can shrink
abbrev onwards : ℕ → ℤ → Observed → Bound
onwards w flow o = record { from = o.station; to = o.target; rise = o.difference; applies = lt_z flow (pos w) }

abbrev backwards : ℕ → ℤ → Observed → Bound
backwards w flow o = record { from = o.target; to = o.station; rise = pos 0 -ℤ o.difference; applies = lt_z (pos 0 -ℤ pos w) flow }

abbrev pub bounds_of : WeightRows → List Observed → List ℤ → List Bound
bounds_of weights [] flows = []
bounds_of weights (o ∷ observations) [] = []
bounds_of weights (o ∷ observations) (flow ∷ flows) = onwards (weight_of weights o.station o.target) flow o ∷ (backwards (weight_of weights o.station o.target) flow o ∷ bounds_of weights observations flows)

not_above : (w : ℕ) (f r : ℤ) → IsFull w f r → lt_z f (pos w) ≡ true → r ≤ℤ pos 0
not_above w f r full room = by_lt_z (pos 0) r (λ up. let whole = full.0 up in let less = lt_z-true f (pos w) room in absurd (omega (arith, ints))) (λ low. low)

not_below : (w : ℕ) (f r : ℤ) → IsFull w f r → lt_z (pos 0 -ℤ pos w) f ≡ true → pos 0 ≤ℤ r
not_below w f r full room = by_lt_z r (pos 0) (λ down. let whole = full.1 down in let less = lt_z-true (pos 0 -ℤ pos w) f room in absurd (omega (arith, ints))) (λ high. high)

pub kept_of_full : (weights : WeightRows) (x : List ℕ → ℤ) (observations : List Observed) (flows : List ℤ) → AreFull observations weights flows x → KeepsAll x (bounds_of weights observations flows)
kept_of_full weights x [] [] full = tt
kept_of_full weights x [] (flow ∷ flows) full = tt
kept_of_full weights x (o ∷ observations) [] full = tt
kept_of_full weights x (o ∷ observations) (flow ∷ flows) full =
    let w = weight_of weights o.station o.target in (
      (λ room. let low = not_above w flow (residual o x) full.0 room in omega (arith, ints)),
      (
        (λ room. let high = not_below w flow (residual o x) full.0 room in omega (arith, ints)),
        kept_of_full weights x observations flows full.1,
      ),
    )

one_full : (w : ℕ) (f r : ℤ) → unsigned_abs f ≤ w → (lt_z f (pos w) ≡ true → r ≤ℤ pos 0) → (lt_z (pos 0 -ℤ pos w) f ≡ true → pos 0 ≤ℤ r) → IsFull w f r
one_full w f r bounded grow shrink = ((λ up. whole up (lt_z f (pos w)) grow (lt_z-false f (pos w))), (λ down. whole_back down (lt_z (pos 0 -ℤ pos w) f) shrink (lt_z-false (pos 0 -ℤ pos w) f)))
  where
    whole : pos 0 <ℤ r → (b : Bool) → (b ≡ true → r ≤ℤ pos 0) → (b ≡ false → pos w ≤ℤ f) → f ≡ pos w
    whole up true low more = let h = low refl in absurd (omega (arith, ints))
    whole up false low more = let h = more refl in omega (arith, ints)

    whole_back : r <ℤ pos 0 → (b : Bool) → (b ≡ true → pos 0 ≤ℤ r) → (b ≡ false → f ≤ℤ (pos 0 -ℤ pos w)) → f ≡ pos 0 -ℤ pos w
    whole_back down true high less = let h = high refl in absurd (omega (arith, ints))
    whole_back down false high less = let h = less refl in omega (arith, ints)

pub full_of_kept : (weights : WeightRows) (x : List ℕ → ℤ) (observations : List Observed) (flows : List ℤ) → AllZip (λ o flow. unsigned_abs flow ≤ weight_of weights o.station o.target) observations flows → KeepsAll x (bounds_of weights observations flows) → AreFull observations weights flows x
full_of_kept weights x [] [] bounded kept = tt
full_of_kept weights x [] (flow ∷ flows) bounded kept = absurd bounded
full_of_kept weights x (o ∷ observations) [] bounded kept = absurd bounded
full_of_kept weights x (o ∷ observations) (flow ∷ flows) bounded kept =
    (one_full (weight_of weights o.station o.target) flow (residual o x) bounded.0 (λ room. let k = kept.0 room in omega (arith, ints)) (λ room. let k = kept.1.0 room in omega (arith, ints)), full_of_kept weights x observations flows bounded.1 kept.1.1)

-- ---- best heights are near the benchmarks
-- no residual is larger in size
abbrev pub AreSmall : ℕ → List Observed → (List ℕ → ℤ) → Type 0
AreSmall most observations x = AllByRecursion (λ o. unsigned_abs (residual o x) ≤ most) observations

pub small_of_cost : (weights : WeightRows) (x : List ℕ → ℤ) (most : ℕ) (observations : List Observed) → ((station target : List ℕ) → 1 ≤ weight_of weights station target) → cost observations weights x ≤ most → AreSmall most observations x
small_of_cost weights x most [] heavy low = tt
small_of_cost weights x most (o ∷ observations) heavy low =
    let sum = sum_by-cons (λ o. weight_of weights o.station o.target * unsigned_abs (residual o x)) o observations in
    let more = mul-le-mul_right (unsigned_abs (residual o x)) (heavy o.station o.target) in
    (omega arith, small_of_cost weights x most observations heavy (omega arith))

-- two heights differ by so much at most
abbrev pub AreNear : ℕ → ℤ → ℤ → Type 0
AreNear most a b = (a ≤ℤ (b +ℤ pos most)) × (b ≤ℤ (a +ℤ pos most))

chain_near : (observations : List Observed) (most : ℕ) (chain : List Observed) (start goal : List ℕ) → All (Contains observations) chain → Leads chain start goal → (k : ℕ) × ((x : List ℕ → ℤ) → AreSmall most observations x → AreNear k (x start) (x goal))
chain_near observations most [] start goal among leads = (0, λ x small. let same = ap x leads in (omega (arith, ints), omega (arith, ints)))
chain_near observations most (o ∷ chain) start goal among leads =
    let has = All-head (Contains observations) o chain among in
    let rest = All-tail (Contains observations) o chain among in
    elim leads [
      | inl h ↦
          let more = chain_near observations most chain o.target goal rest h.1 in (
            more.0 + most + unsigned_abs o.difference,
            λ x small.
                let one = All-contains (λ o. unsigned_abs (residual o x) ≤ most) observations o (All-from_recursion (λ o. unsigned_abs (residual o x) ≤ most) observations small) has in
                let near = more.1 x small in
                let low = near.0 in
                let high = near.1 in
                let same = ap x h.0 in
                (omega (arith, ints), omega (arith, ints)),
          )
      | inr h ↦
          let more = chain_near observations most chain o.station goal rest h.1 in (
            more.0 + most + unsigned_abs o.difference,
            λ x small.
                let one = All-contains (λ o. unsigned_abs (residual o x) ≤ most) observations o (All-from_recursion (λ o. unsigned_abs (residual o x) ≤ most) observations small) has in
                let near = more.1 x small in
                let low = near.0 in
                let high = near.1 in
                let same = ap x h.0 in
                (omega (arith, ints), omega (arith, ints)),
          )
    ]

tied_near : (observations : List Observed) (benchmarks : BenchmarkRows) (most : ℕ) (name : List ℕ) → IsTied observations benchmarks name → (k : ℕ) × ((x : List ℕ → ℤ) → IsHeights benchmarks x → AreSmall most observations x → AreNear k (x name) (pos 0))
tied_near observations benchmarks most name tied = by (height_of benchmarks tied.0) refl tied.1 (chain_near observations most tied.2.0 name tied.0 tied.2.1 tied.2.2)
  where
    by : (found : Option ℤ) → height_of benchmarks tied.0 ≡ found → IsSome found → (k : ℕ) × ((x : List ℕ → ℤ) → AreSmall most observations x → AreNear k (x name) (x tied.0)) → (k : ℕ) × ((x : List ℕ → ℤ) → IsHeights benchmarks x → AreSmall most observations x → AreNear k (x name) (pos 0))
    by None e some more = absurd (grind arith)
    by (Some height) e some more = (
      more.0 + unsigned_abs height,
      λ x kept small.
          let near = more.1 x small in
          let low = near.0 in
          let high = near.1 in
          let at = kept tied.0 height e in
          (omega (arith, ints), omega (arith, ints)),
    )

pub names_near : (observations : List Observed) (benchmarks : BenchmarkRows) (most : ℕ) (names : List (List ℕ)) → AllByRecursion (IsTied observations benchmarks) names → (k : ℕ) × ((x : List ℕ → ℤ) → IsHeights benchmarks x → AreSmall most observations x → (name : List ℕ) → is_among names name ≡ true → AreNear k (x name) (pos 0))
names_near observations benchmarks most [] tied = (0, λ x kept small name among. absurd (grind arith))
names_near observations benchmarks most (first ∷ names) tied =
    let one = tied_near observations benchmarks most first tied.0 in
    let more = names_near observations benchmarks most names tied.1 in
    (one.0 + more.0, λ x kept small name among. by one.0 more.0 x name (bytes_eq name first) (bytes_eq-Decides name first).0 (one.1 x kept small) (more.1 x kept small name) among)
  where
    by : (n m : ℕ) (x : List ℕ → ℤ) (name : List ℕ) (b : Bool) → (b ≡ true → name ≡ first) → AreNear n (x first) (pos 0) → (is_among names name ≡ true → AreNear m (x name) (pos 0)) → (b || is_among names name) ≡ true → AreNear (n + m) (x name) (pos 0)
    by n m x name true is one more among =
        let same = ap x (is refl) in
        let low = one.0 in
        let high = one.1 in
        (omega (arith, ints), omega (arith, ints))
    by n m x name false is one more among =
        let near = more among in
        let low = near.0 in
        let high = near.1 in
        (omega (arith, ints), omega (arith, ints))

or_true : (b c : Bool) → c ≡ true → (b || c) ≡ true
or_true true c e = refl
or_true false c e = e

pub all_among : (all names : List (List ℕ)) → ((name : List ℕ) → is_among names name ≡ true → is_among all name ≡ true) → AllByRecursion (λ name. is_among all name ≡ true) names
all_among all [] has = tt
all_among all (first ∷ names) has = (has first (ap (λ b. b || is_among names first) (bytes_eq_same first)), all_among all names (λ name e. has name (or_true (bytes_eq name first) (is_among names name) e)))

-- the name at a place of a list is among it
pub among_at : (names : List (List ℕ)) → All (λ name. is_among names name ≡ true) names
among_at names = All-from_recursion (λ name. is_among names name ≡ true) names (all_among names names (λ name e. e))
