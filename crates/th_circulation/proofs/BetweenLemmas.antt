-- Heights between two that flows show: raised from the lower ones by an amount, but nowhere above the higher ones.
use Rattle.std.proofs.Common.{◌≡◌, ◌⊎◌, inl, inr, ℕ, Bool, true, false, ℤ, pos, ◌+ℤ◌, ◌-ℤ◌, ◌≤ℤ◌, List, [], ◌∷◌, if◌then◌else◌, int_lt, unsigned_abs, refl, arith}
use Rattle.std.specs.Prelude.{◌<ℤ◌}
use Rattle.std.proofs.lemmas.Int.{ints}
use Rattle.th_observations.specs.Observed.{Observed}
use Rattle.th_tables.specs.Rows.{BenchmarkRows, WeightRows, weight_of}
use Rattle.th_network.specs.Heights.{IsHeights, Least}
use Rattle.th_network.specs.Networks.{Survey}
use Rattle.th_circulation.specs.Between.{raised_up_to}
use Rattle.th_circulation.specs.Settled.{AreShown}
use Rattle.th_circulation.proofs.BestLemmas.{shown_is_best}
use Rattle.th_circulation.proofs.SideLemmas.{AreFull, IsFull, full_of_shows, shows_of_full}

less_is : (x y : ℤ) → int_lt x y ≡ true → x <ℤ y
less_is x y less = grind (arith, ints)

not_less : (x y : ℤ) → int_lt x y ≡ false → y ≤ℤ x
not_less x y more = grind (arith, ints)

-- the lesser of a height raised by k and of another one
abbrev IsMin : ℕ → ℤ → ℤ → ℤ → Type 0
IsMin k low high own = (own ≤ℤ (low +ℤ pos k)) × (own ≤ℤ high) × ((own ≡ low +ℤ pos k) ⊎ (own ≡ high))

min_is : (k : ℕ) (low high : ℤ) → IsMin k low high (if int_lt (low +ℤ pos k) high then low +ℤ pos k else high)
min_is k low high = by (int_lt (low +ℤ pos k) high) refl
  where
    by : (b : Bool) → int_lt (low +ℤ pos k) high ≡ b → IsMin k low high (if b then low +ℤ pos k else high)
    by true e = let less = less_is (low +ℤ pos k) high e in (omega (arith, ints), omega (arith, ints), inl refl)
    by false e = let more = not_less (low +ℤ pos k) high e in (omega (arith, ints), omega (arith, ints), inr refl)

one_between : (w k : ℕ) (f d ls lt hs ht gs gt : ℤ) → IsMin k ls hs gs → IsMin k lt ht gt → IsFull w f (d -ℤ (lt -ℤ ls)) → IsFull w f (d -ℤ (ht -ℤ hs)) → IsFull w f (d -ℤ (gt -ℤ gs))
one_between w k f d ls lt hs ht gs gt station target low high =
    let s0 = station.0 in
    let s1 = station.1 in
    let t0 = target.0 in
    let t1 = target.1 in (
      (λ up. elim target.2 [
        | inl e ↦ low.0 (omega (arith, ints))
        | inr e ↦ high.0 (omega (arith, ints))
      ]),
      (λ down. elim station.2 [
        | inl e ↦ low.1 (omega (arith, ints))
        | inr e ↦ high.1 (omega (arith, ints))
      ]),
    )

all_between : (weights : WeightRows) (k : ℕ) (low high : List ℕ → ℤ) (observations : List Observed) (flows : List ℤ) → AreFull observations weights flows low → AreFull observations weights flows high → AreFull observations weights flows (raised_up_to k low high)
all_between weights k low high [] [] a b = tt
all_between weights k low high [] (flow ∷ flows) a b = absurd a
all_between weights k low high (o ∷ observations) [] a b = absurd a
all_between weights k low high (o ∷ observations) (flow ∷ flows) a b = (
  one_between (weight_of weights o.station o.target) k flow o.difference (low o.station) (low o.target) (high o.station) (high o.target) (raised_up_to k low high o.station) (raised_up_to k low high o.target)
      (min_is k (low o.station) (high o.station)) (min_is k (low o.target) (high o.target)) a.0 b.0,
  all_between weights k low high observations flows a.1 b.1,
)

kept_between : (benchmarks : BenchmarkRows) (k : ℕ) (low high : List ℕ → ℤ) → IsHeights benchmarks low → IsHeights benchmarks high → IsHeights benchmarks (raised_up_to k low high)
kept_between benchmarks k low high low_kept high_kept name height e = by (low_kept name height e) (high_kept name height e) (min_is k (low name) (high name))
  where
    by : low name ≡ height → high name ≡ height → IsMin k (low name) (high name) (raised_up_to k low high name) → raised_up_to k low high name ≡ height
    by a b is =
        let most = is.1 in
        elim is.2 [
          | inl c ↦ omega (arith, ints)
          | inr c ↦ omega (arith, ints)
        ]

pub between_best : (survey : Survey) (low high : List ℕ → ℤ) (flows : List ℤ) (k : ℕ) → AreShown survey flows low → AreShown survey flows high → Least survey.observations survey.benchmarks survey.weights (raised_up_to k low high)
between_best survey low high flows k is_low is_high =
    shown_is_best survey.observations survey.benchmarks survey.weights (raised_up_to k low high) flows (kept_between survey.benchmarks k low high is_low.kept is_high.kept) is_low.circulation
    (shows_of_full survey.weights (raised_up_to k low high) survey.observations flows (all_between survey.weights k low high survey.observations flows
    (full_of_shows survey.weights low survey.observations flows is_low.shows) (full_of_shows survey.weights high survey.observations flows is_high.shows)))

pub between_reached : (low high : List ℕ → ℤ) (point : List ℕ) (height : ℤ) → low point ≤ℤ height → height ≤ℤ high point → raised_up_to (unsigned_abs (height -ℤ low point)) low high point ≡ height
between_reached low high point height above below = by (min_is (unsigned_abs (height -ℤ low point)) (low point) (high point))
  where
    by : IsMin (unsigned_abs (height -ℤ low point)) (low point) (high point) (raised_up_to (unsigned_abs (height -ℤ low point)) low high point) → raised_up_to (unsigned_abs (height -ℤ low point)) low high point ≡ height
    by is =
        let a = is.0 in
        let b = is.1 in
        elim is.2 [
          | inl c ↦ omega (arith, ints)
          | inr c ↦ omega (arith, ints)
        ]
