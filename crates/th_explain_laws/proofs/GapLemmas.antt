-- What is proposed has no gap: between best heights with two changes of a number is a path of best heights, along which the change grows by at most 1.
use Rattle.std.proofs.Common.{◌≡◌, ◌≤◌, ◌+◌, ◌*◌, ◌⊎◌, inl, inr, ℕ, zero, suc, ℤ, pos, ◌+ℤ◌, ◌-ℤ◌, ◌*ℤ◌, ◌≤ℤ◌, negsuc, List, All, Bool, true, false, if◌then◌else◌, int_lt, bytes_eq, unsigned_abs, refl, subst, sym, ap, ◌∙◌, mul-le-mul_left, arith}
use Rattle.std.specs.Prelude.{slice_index_or}
use Rattle.std.proofs.lemmas.Int.{ints}
use Rattle.std.proofs.lemmas.List.Elements.{All-weaker, recursion_from_All}
use Rattle.std.proofs.lemmas.Slice.Eq.{bytes_eq-Decides}
use Rattle.th_observations.specs.Observed.{Observed}
use Rattle.th_tables.specs.Rows.{weight_of}
use Rattle.th_network.specs.Heights.{residual}
use Rattle.th_network.specs.Networks.{Survey}
use Rattle.th_reliability.specs.Sights.{in_sights}
use Rattle.th_reliability.specs.declared.sights.Sights.{Sights}
use Rattle.th_reliability.proofs.SumLemmas.{sums-le-all, sums-plus}
use Rattle.th_changes.specs.declared.numbers.Number.{Number}
use Rattle.th_changes.specs.declared.numbers.Number.TheVariants.{Added, Subtracted, Benchmark}
use Rattle.th_changes.specs.Numbers.{touch}
use Rattle.th_changes.specs.Freed.{Costs, IsProposed, Keeps}
use Rattle.th_changes.proofs.Tilts.{tilted}
use Rattle.th_changes.proofs.Changes.{cost_changed, keeps_lowered, keeps_raised, lowered, lowered_raised, raised}
use Rattle.th_explain_laws.specs.OnePoint.{IsAtOnePoint}
use Rattle.th_explain_laws.proofs.TieLemmas.{lengths_tied, tied_back, tied_proposed}

-- ---- two heights, and two others with the same sum: the lesser of the first raised by k and the second, and the greater of what is left
abbrev lesser : ℕ → ℤ → ℤ → ℤ
lesser k a b = if int_lt (a +ℤ pos k) b then a +ℤ pos k else b

abbrev greater : ℕ → ℤ → ℤ → ℤ
greater k a b = if int_lt (a +ℤ pos k) b then b -ℤ pos k else a

abbrev IsMixed : ℕ → ℤ → ℤ → ℤ → ℤ → Type 0
IsMixed k a b low high = ((low ≡ a +ℤ pos k) × (high ≡ b -ℤ pos k) × ((a +ℤ pos k) ≤ℤ b)) ⊎ ((low ≡ b) × (high ≡ a) × (b ≤ℤ (a +ℤ pos k)))

less_is : (x y : ℤ) → int_lt x y ≡ true → x ≤ℤ y
less_is x y e = grind (arith, ints)

more_is : (x y : ℤ) → int_lt x y ≡ false → y ≤ℤ x
more_is x y e = grind (arith, ints)

mixed : (k : ℕ) (a b : ℤ) → IsMixed k a b (lesser k a b) (greater k a b)
mixed k a b = by (int_lt (a +ℤ pos k) b) refl
  where
    by : (less : Bool) → int_lt (a +ℤ pos k) b ≡ less → IsMixed k a b (if less then a +ℤ pos k else b) (if less then b -ℤ pos k else a)
    by true e = inl (refl, refl, less_is (a +ℤ pos k) b e)
    by false e = inr (refl, refl, more_is (a +ℤ pos k) b e)

-- a difference costs no more with the others
one_edge : (k : ℕ) (d s1 s2 t1 t2 sl sh tl th : ℤ) → IsMixed k s1 s2 sl sh → IsMixed k t1 t2 tl th
    → (unsigned_abs (d -ℤ (tl -ℤ sl)) + unsigned_abs (d -ℤ (th -ℤ sh))) ≤ (unsigned_abs (d -ℤ (t1 -ℤ s1)) + unsigned_abs (d -ℤ (t2 -ℤ s2)))
one_edge k d s1 s2 t1 t2 sl sh tl th (inl (a, b, c)) (inl (e, f, g)) = omega (arith, ints)
one_edge k d s1 s2 t1 t2 sl sh tl th (inl (a, b, c)) (inr (e, f, g)) = omega (arith, ints)
one_edge k d s1 s2 t1 t2 sl sh tl th (inr (a, b, c)) (inl (e, f, g)) = omega (arith, ints)
one_edge k d s1 s2 t1 t2 sl sh tl th (inr (a, b, c)) (inr (e, f, g)) = omega (arith, ints)

weighed : (w a b c d : ℕ) → a + b ≤ c + d → (w * a + w * b) ≤ (w * c + w * d)
weighed w a b c d less = let scaled = mul-le-mul_left w less in omega arith

-- ---- an end of a difference, raised by the change if it is one that the number touches
abbrev bit : Bool → ℤ
bit b = if b then pos 1 else pos 0

abbrev raised_if : Bool → ℤ → ℤ → ℤ
raised_if b x height = if b then height +ℤ x else height

touched : (d ht hs x t : ℤ) (a b : Bool) → t ≡ bit a -ℤ bit b → (d -ℤ (ht -ℤ hs)) +ℤ x *ℤ t ≡ d -ℤ (raised_if b x ht -ℤ raised_if a x hs)
touched d ht hs x t true true e = let same = ap (λ z. x *ℤ z) e in omega (arith, ints)
touched d ht hs x t true false e = let same = ap (λ z. x *ℤ z) e in omega (arith, ints)
touched d ht hs x t false true e = let same = ap (λ z. x *ℤ z) e in omega (arith, ints)
touched d ht hs x t false false e = let same = ap (λ z. x *ℤ z) e in omega (arith, ints)

-- what an observation has to do with a number at this point
abbrev IsTouched : Number → List ℕ → (Observed → Bool) → (Observed → Bool) → Observed → Type 0
IsTouched number at from to o = (touch number o ≡ bit (from o) -ℤ bit (to o)) × (from o ≡ true → o.station ≡ at) × (to o ≡ true → o.target ≡ at)

-- ---- a function that grows by at most 1 takes each value between two of its own
next : (n : ℕ) → n + 1 ≡ suc n
next n = omega arith

above_is : (y x : ℤ) → int_lt y x ≡ true → (y +ℤ pos 1) ≤ℤ x
above_is y x e = grind (arith, ints)

climbs : (f : ℕ → ℤ) (n : ℕ) (x : ℤ) → ((k : ℕ) → f (k + 1) ≤ℤ (f k +ℤ pos 1)) → f 0 ≤ℤ x → x ≤ℤ f n → (k : ℕ) × (f k ≡ x)
climbs f zero x steps from to = (0, omega (arith, ints))
climbs f (suc n) x steps from to = by (int_lt (f n) x) refl (climbs f n x steps from)
  where
    by : (more : Bool) → int_lt (f n) x ≡ more → (x ≤ℤ f n → (k : ℕ) × (f k ≡ x)) → (k : ℕ) × (f k ≡ x)
    by false e rest = rest (more_is (f n) x e)
    by true e rest =
        let step : f (suc n) ≤ℤ (f n +ℤ pos 1) = subst (λ (m : ℕ). f m ≤ℤ (f n +ℤ pos 1)) (next n) (steps n) in
        let above : (f n +ℤ pos 1) ≤ℤ x = above_is (f n) x e in
        (suc n, omega (arith, ints))

-- ---- a path
module _ (number : Number) (at : List ℕ) (survey : Survey) (from to : Observed → Bool) (touches : All (IsTouched number at from to) survey.observations) where
  module _ (x1 x2 : ℤ) (h1 h2 : List ℕ → ℤ) (k : ℕ) where
    abbrev low : List ℕ → ℤ
    low name = lesser k (h1 name) (h2 name)

    abbrev high : List ℕ → ℤ
    high name = greater k (h1 name) (h2 name)

    abbrev low_change : ℤ
    low_change = lesser k (h1 at +ℤ x1) (h2 at +ℤ x2) -ℤ low at

    abbrev high_change : ℤ
    high_change = greater k (h1 at +ℤ x1) (h2 at +ℤ x2) -ℤ high at

    mixed_here : IsMixed k (h1 at +ℤ x1) (h2 at +ℤ x2) (low at +ℤ low_change) (high at +ℤ high_change)
    mixed_here = elim (mixed k (h1 at +ℤ x1) (h2 at +ℤ x2)) [
      | inl h ↦
          let a = h.0 in
          let b = h.1 in
          inl (omega (arith, ints), omega (arith, ints), h.2)
      | inr h ↦
          let a = h.0 in
          let b = h.1 in
          inr (omega (arith, ints), omega (arith, ints), h.2)
    ]

    mixed_end : (b : Bool) (name : List ℕ) → (b ≡ true → name ≡ at) → IsMixed k (raised_if b x1 (h1 name)) (raised_if b x2 (h2 name)) (raised_if b low_change (low name)) (raised_if b high_change (high name))
    mixed_end false name is = mixed k (h1 name) (h2 name)
    mixed_end true name is =
        subst (λ (n : List ℕ). IsMixed k (h1 n +ℤ x1) (h2 n +ℤ x2) (low n +ℤ low_change) (high n +ℤ high_change)) (sym (is refl)) mixed_here

    no_more : (tilted (λ o. low_change *ℤ touch number o) survey.observations survey.weights low + tilted (λ o. high_change *ℤ touch number o) survey.observations survey.weights high) ≤ (tilted (λ o. x1 *ℤ touch number o) survey.observations survey.weights h1 + tilted (λ o. x2 *ℤ touch number o) survey.observations survey.weights h2)
    no_more =
        let w = λ (o : Observed). weight_of survey.weights o.station o.target in
        let a = λ (o : Observed). w o * unsigned_abs (residual o low +ℤ low_change *ℤ touch number o) in
        let b = λ (o : Observed). w o * unsigned_abs (residual o high +ℤ high_change *ℤ touch number o) in
        let c = λ (o : Observed). w o * unsigned_abs (residual o h1 +ℤ x1 *ℤ touch number o) in
        let d = λ (o : Observed). w o * unsigned_abs (residual o h2 +ℤ x2 *ℤ touch number o) in
        let each = sums-le-all (λ o. a o + b o) (λ o. c o + d o) survey.observations (recursion_from_All (λ o. (a o + b o) ≤ (c o + d o)) survey.observations (All-weaker (IsTouched number at from to) (λ o. (a o + b o) ≤ (c o + d o)) one survey.observations touches)) in
        let left = sums-plus a b survey.observations in
        let right = sums-plus c d survey.observations in
        omega arith
      where
        one : (o : Observed) → IsTouched number at from to o
            → (weight_of survey.weights o.station o.target * unsigned_abs (residual o low +ℤ low_change *ℤ touch number o) + weight_of survey.weights o.station o.target * unsigned_abs (residual o high +ℤ high_change *ℤ touch number o))
            ≤ (weight_of survey.weights o.station o.target * unsigned_abs (residual o h1 +ℤ x1 *ℤ touch number o) + weight_of survey.weights o.station o.target * unsigned_abs (residual o h2 +ℤ x2 *ℤ touch number o))
        one o (is, station, target) =
            let a = ap unsigned_abs (touched o.difference (low o.target) (low o.station) low_change (touch number o) (from o) (to o) is) in
            let b = ap unsigned_abs (touched o.difference (high o.target) (high o.station) high_change (touch number o) (from o) (to o) is) in
            let c = ap unsigned_abs (touched o.difference (h1 o.target) (h1 o.station) x1 (touch number o) (from o) (to o) is) in
            let d = ap unsigned_abs (touched o.difference (h2 o.target) (h2 o.station) x2 (touch number o) (from o) (to o) is) in
            let less = one_edge k o.difference (raised_if (from o) x1 (h1 o.station)) (raised_if (from o) x2 (h2 o.station)) (raised_if (to o) x1 (h1 o.target)) (raised_if (to o) x2 (h2 o.target))
            (raised_if (from o) low_change (low o.station)) (raised_if (from o) high_change (high o.station)) (raised_if (to o) low_change (low o.target)) (raised_if (to o) high_change (high o.target))
            (mixed_end (from o) o.station station) (mixed_end (to o) o.target target) in
            weighed (weight_of survey.weights o.station o.target) (unsigned_abs (residual o low +ℤ low_change *ℤ touch number o)) (unsigned_abs (residual o high +ℤ high_change *ℤ touch number o)) (unsigned_abs (residual o h1 +ℤ x1 *ℤ touch number o)) (unsigned_abs (residual o h2 +ℤ x2 *ℤ touch number o)) (omega arith)

    low_keeps : Keeps survey h1 → Keeps survey h2 → Keeps survey low
    low_keeps first second name height listed =
        let a = first name height listed in
        let b = second name height listed in
        elim (mixed k (h1 name) (h2 name)) [
          | inl h ↦ let c = h.0 in let d = h.2 in omega (arith, ints)
          | inr h ↦ let c = h.0 in omega (arith, ints)
        ]

    high_keeps : Keeps survey h1 → Keeps survey h2 → Keeps survey high
    high_keeps first second name height listed =
        let a = first name height listed in
        let b = second name height listed in
        elim (mixed k (h1 name) (h2 name)) [
          | inl h ↦ let c = h.1 in let d = h.2 in omega (arith, ints)
          | inr h ↦ let c = h.1 in omega (arith, ints)
        ]

  -- how much a change and heights cost, at heights that keep the benchmarks as they were
  abbrev total : ℤ → (List ℕ → ℤ) → ℕ
  total x heights = tilted (λ o. x *ℤ touch number o) survey.observations survey.weights heights

  reached_by : (x : ℤ) (heights : List ℕ → ℤ) (freed : ℕ) → Keeps survey heights → total x heights ≡ freed → Costs survey number x freed
  reached_by x heights freed kept is =
      (raised number x heights, keeps_raised survey number x heights kept, cost_changed survey number x (raised number x heights) ∙ ap (total x) (lowered_raised number x heights) ∙ is)

  abbrev AtLeast : ℕ → Type 0
  AtLeast freed = (x : ℤ) (heights : List ℕ → ℤ) → Keeps survey heights → freed ≤ total x heights

  at_least : (x : ℤ) (is : IsProposed survey number x) → AtLeast is.freed
  at_least x is y heights kept = let (own, keeps, costs) = reached_by y heights (total y heights) kept refl in subst (λ (n : ℕ). is.freed ≤ n) costs (is.is_freed.least y own keeps)

  -- the step of a path is proposed
  proposed_at : (x1 x2 : ℤ) (h1 h2 : List ℕ → ℤ) (freed : ℕ) → AtLeast freed → Keeps survey h1 → Keeps survey h2 → total x1 h1 ≤ freed → total x2 h2 ≤ freed → (k : ℕ) → total (low_change x1 x2 h1 h2 k) (low x1 x2 h1 h2 k) ≡ freed
  proposed_at x1 x2 h1 h2 freed least first second less less' k =
      let sum = no_more x1 x2 h1 h2 k in
      let one = least (low_change x1 x2 h1 h2 k) (low x1 x2 h1 h2 k) (low_keeps x1 x2 h1 h2 k first second) in
      let other = least (high_change x1 x2 h1 h2 k) (high x1 x2 h1 h2 k) (high_keeps x1 x2 h1 h2 k first second) in
      omega arith

  -- along a path the change grows by at most 1, and falls by at most 1
  grows : (k : ℕ) (a b : ℤ) → (lesser k a b ≤ℤ lesser (k + 1) a b) × (lesser (k + 1) a b ≤ℤ (lesser k a b +ℤ pos 1))
  grows k a b = by (mixed k a b) (mixed (k + 1) a b)
    where
      by : IsMixed k a b (lesser k a b) (greater k a b) → IsMixed (k + 1) a b (lesser (k + 1) a b) (greater (k + 1) a b)
          → (lesser k a b ≤ℤ lesser (k + 1) a b) × (lesser (k + 1) a b ≤ℤ (lesser k a b +ℤ pos 1))
      by (inl (p, q, r)) (inl (s, t, u)) = (omega (arith, ints), omega (arith, ints))
      by (inl (p, q, r)) (inr (s, t, u)) = (omega (arith, ints), omega (arith, ints))
      by (inr (p, q, r)) (inl (s, t, u)) = (omega (arith, ints), omega (arith, ints))
      by (inr (p, q, r)) (inr (s, t, u)) = (omega (arith, ints), omega (arith, ints))

  up : (x1 x2 : ℤ) (h1 h2 : List ℕ → ℤ) (k : ℕ) → low_change x1 x2 h1 h2 (k + 1) ≤ℤ (low_change x1 x2 h1 h2 k +ℤ pos 1)
  up x1 x2 h1 h2 k =
      let a = (grows k (h1 at +ℤ x1) (h2 at +ℤ x2)).1 in
      let b = (grows k (h1 at) (h2 at)).0 in
      omega (arith, ints)

  down : (x1 x2 : ℤ) (h1 h2 : List ℕ → ℤ) (k : ℕ) → (pos 0 -ℤ low_change x1 x2 h1 h2 (k + 1)) ≤ℤ ((pos 0 -ℤ low_change x1 x2 h1 h2 k) +ℤ pos 1)
  down x1 x2 h1 h2 k =
      let a = (grows k (h1 at +ℤ x1) (h2 at +ℤ x2)).0 in
      let b = (grows k (h1 at) (h2 at)).1 in
      omega (arith, ints)

  -- where it begins, from either side, and where it ends
  begins : (a b : ℤ) → lesser 0 a b ≡ lesser 0 b a
  begins a b = by (mixed 0 a b) (mixed 0 b a)
    where
      by : IsMixed 0 a b (lesser 0 a b) (greater 0 a b) → IsMixed 0 b a (lesser 0 b a) (greater 0 b a) → lesser 0 a b ≡ lesser 0 b a
      by (inl (p, q, r)) (inl (s, t, u)) = omega (arith, ints)
      by (inl (p, q, r)) (inr (s, t, u)) = omega (arith, ints)
      by (inr (p, q, r)) (inl (s, t, u)) = omega (arith, ints)
      by (inr (p, q, r)) (inr (s, t, u)) = omega (arith, ints)

  ends : (k : ℕ) (a b : ℤ) → unsigned_abs a + unsigned_abs b ≤ k → lesser k a b ≡ b
  ends k a b far = elim (mixed k a b) [
    | inl h ↦ let p = h.0 in let q = h.2 in omega (arith, ints)
    | inr h ↦ h.0
  ]

  abbrev length_of : ℤ → ℤ → ℤ → ℤ → ℕ
  length_of a b c d = (unsigned_abs a + unsigned_abs b) + (unsigned_abs c + unsigned_abs d)

  arrives : (x1 x2 : ℤ) (h1 h2 : List ℕ → ℤ) (k : ℕ) → k ≡ length_of (h1 at +ℤ x1) (h2 at +ℤ x2) (h1 at) (h2 at) → low_change x1 x2 h1 h2 k ≡ x2
  arrives x1 x2 h1 h2 k far =
      let a = ends k (h1 at +ℤ x1) (h2 at +ℤ x2) (omega (arith, far)) in
      let b = ends k (h1 at) (h2 at) (omega (arith, far)) in
      omega (arith, ints)

  pub between : (x1 x x2 : ℤ) → IsProposed survey number x1 → IsProposed survey number x2 → x1 ≤ℤ x → x ≤ℤ x2 → IsProposed survey number x
  between x1 x x2 first second above below = by first.reached second.reached
    where
      by : Costs survey number x1 first.freed → Costs survey number x2 second.freed → IsProposed survey number x
      by (g1, keeps1, costs1) (g2, keeps2, costs2) = pick (int_lt x (low_change x1 x2 h1 h2 0)) refl
        where
          h1 : List ℕ → ℤ
          h1 = lowered number x1 g1

          h2 : List ℕ → ℤ
          h2 = lowered number x2 g2

          kept1 : Keeps survey h1
          kept1 = keeps_lowered survey number x1 g1 keeps1

          kept2 : Keeps survey h2
          kept2 = keeps_lowered survey number x2 g2 keeps2

          one : total x1 h1 ≡ first.freed
          one = sym (cost_changed survey number x1 g1) ∙ costs1

          two : total x2 h2 ≡ second.freed
          two = sym (cost_changed survey number x2 g2) ∙ costs2

          most : total x2 h2 ≤ first.freed
          most = let less = at_least x2 second x1 h1 kept1 in omega (arith, less, one, two)

          found : (y : ℤ) (heights : List ℕ → ℤ) → Keeps survey heights → total y heights ≡ first.freed → y ≡ x → IsProposed survey number x
          found y heights kept costs same = record {
            freed = first.freed;
            is_freed = first.is_freed;
            reached = subst (λ (z : ℤ). Costs survey number z first.freed) same (reached_by y heights first.freed kept costs);
          }

          pick : (less : Bool) → int_lt x (low_change x1 x2 h1 h2 0) ≡ less → IsProposed survey number x
          pick false e =
              let n = length_of (h1 at +ℤ x1) (h2 at +ℤ x2) (h1 at) (h2 at) in
              let arrived = arrives x1 x2 h1 h2 n refl in
              let (k, same) = climbs (low_change x1 x2 h1 h2) n x (up x1 x2 h1 h2) (more_is x (low_change x1 x2 h1 h2 0) e) (omega (arith, ints)) in
              found (low_change x1 x2 h1 h2 k) (low x1 x2 h1 h2 k) (low_keeps x1 x2 h1 h2 k kept1 kept2) (proposed_at x1 x2 h1 h2 first.freed (at_least x1 first) kept1 kept2 (omega (arith, one)) most k) same
          pick true e =
              let n = length_of (h2 at +ℤ x2) (h1 at +ℤ x1) (h2 at) (h1 at) in
              let arrived = arrives x2 x1 h2 h1 n refl in
              let a = begins (h1 at +ℤ x1) (h2 at +ℤ x2) in
              let b = begins (h1 at) (h2 at) in
              let less = less_is x (low_change x1 x2 h1 h2 0) e in
              let (k, same) = climbs (λ j. pos 0 -ℤ low_change x2 x1 h2 h1 j) n (pos 0 -ℤ x) (down x2 x1 h2 h1) (omega (arith, ints)) (omega (arith, ints)) in
              found (low_change x2 x1 h2 h1 k) (low x2 x1 h2 h1 k) (low_keeps x2 x1 h2 h1 k kept2 kept1) (proposed_at x2 x1 h2 h1 first.freed (at_least x1 first) kept2 kept1 most (omega (arith, one)) k) (omega (arith, ints))

-- ---- each kind of number
added_touch : (b : Bool) → (if b then pos 1 else pos 0) +ℤ pos 0 -ℤ pos 0 ≡ bit b -ℤ bit false
added_touch true = refl
added_touch false = refl

benchmark_touch : (a b : ℤ) → pos 0 +ℤ a -ℤ b ≡ a -ℤ b
benchmark_touch a b = omega (arith, ints)

no_bit : false ≡ true → ⊥
no_bit e = cc

added : (survey : Survey) (sights : Sights) (x1 x x2 : ℤ) → IsAtOnePoint survey (Added sights) → IsProposed survey (Added sights) x1 → IsProposed survey (Added sights) x2 → x1 ≤ℤ x → x ≤ℤ x2 → IsProposed survey (Added sights) x
added survey sights x1 x x2 (station, all) =
    between (Added sights) station survey (in_sights sights) (λ o. false)
    (λ k d within. (added_touch (in_sights sights (slice_index_or survey.observations k d)), all k d within, λ e. absurd (no_bit e))) x1 x x2

pub no_gap : (survey : Survey) (number : Number) (x1 x x2 : ℤ) → IsAtOnePoint survey number → IsProposed survey number x1 → IsProposed survey number x2 → x1 ≤ℤ x → x ≤ℤ x2 → IsProposed survey number x
unfolding tied_back lengths_tied
no_gap survey (Added sights) x1 x x2 one first second above below = added survey sights x1 x x2 one first second above below
no_gap survey (Benchmark name) x1 x x2 one first second above below =
    between (Benchmark name) name survey (λ o. bytes_eq name o.station) (λ o. bytes_eq name o.target)
    (λ k d within. by (slice_index_or survey.observations k d)) x1 x x2 first second above below
  where
    by : (o : Observed) → IsTouched (Benchmark name) name (λ o. bytes_eq name o.station) (λ o. bytes_eq name o.target) o
    by o = (
      benchmark_touch (bit (bytes_eq name o.station)) (bit (bytes_eq name o.target)),
      (λ e. sym ((bytes_eq-Decides name o.station).0 e)),
      (λ e. sym ((bytes_eq-Decides name o.target).0 e)),
    )
no_gap survey (Subtracted sights) x1 x x2 one first second above below =
    let tie = lengths_tied survey sights in
    let back = tied_back survey (Added sights) (Subtracted sights) tie in
    let a = tied_proposed survey (Subtracted sights) (Added sights) x1 back first in
    let b = tied_proposed survey (Subtracted sights) (Added sights) x2 back second in
    let c = added survey sights (x2 *ℤ negsuc 0) (x *ℤ negsuc 0) (x1 *ℤ negsuc 0) one b a (omega (arith, ints)) (omega (arith, ints)) in
    subst (IsProposed survey (Subtracted sights)) (twice x) (tied_proposed survey (Added sights) (Subtracted sights) (x *ℤ negsuc 0) tie c)
  where
    twice : (x : ℤ) → (x *ℤ negsuc 0) *ℤ negsuc 0 ≡ x
    twice x = omega (arith, ints)
