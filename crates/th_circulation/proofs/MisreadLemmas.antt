-- A misreading that shows moves no lowest best height.
use Rattle.std.proofs.Common.{◌≡◌, ℕ, Bool, true, false, ◌≤◌, ℤ, pos, ◌+ℤ◌, ◌-ℤ◌, ◌≤ℤ◌, List, [], ◌∷◌, ◌++◌, All, None, bytes_eq, if◌then◌else◌, map, zip, unsigned_abs, refl, ap, subst, ◌∙◌, sym, arith}
use Rattle.std.specs.Prelude.{◌<ℤ◌, slice_index_or}
use Rattle.std.specs.List.{AllZip}
use Rattle.std.proofs.lemmas.Int.{ints, by_lt_z}
use lib.Signed.{lt_z}
use Rattle.th_observations.specs.Observed.{Observed}
use Rattle.th_tables.specs.Rows.{BenchmarkRows, WeightRows, height_of, weight_of}
use Rattle.th_points.specs.Points.{distinct, ends, points}
use Rattle.th_network.specs.Heights.{IsHeights, residual}
use Rattle.th_network.specs.Circulation.{Circulation, Shows, arriving, leaving}
use Rattle.th_network.proofs.Balance.{total_by-cons}
use Rattle.th_circulation.specs.Extremes.{Low}
use Rattle.th_circulation.specs.Misreadings.{ErrsFurther, AreMisread}
use Rattle.th_circulation.proofs.BestLemmas.{best_is_shown, shown_is_best}
use Rattle.th_circulation.proofs.SideLemmas.{IsFull, AreFull, full_of_shows, shows_of_full}

-- ---- misread observations have the same points, weights and flows
ends_same : (heights : List ℕ → ℤ) (observations misread : List Observed) → AreMisread heights observations misread → ends misread ≡ ends observations
ends_same heights [] [] h = refl
ends_same heights [] (m ∷ misread) h = absurd h
ends_same heights (o ∷ observations) [] h = absurd h
ends_same heights (o ∷ observations) (m ∷ misread) h =
    ap (λ name. name ∷ m.target ∷ ends misread) h.0.station ∙ ap (λ name. o.station ∷ name ∷ ends misread) h.0.target ∙ ap (λ names. o.station ∷ o.target ∷ names) (ends_same heights observations misread h.1)

points_same : (heights : List ℕ → ℤ) (benchmarks : BenchmarkRows) (observations misread : List Observed) → AreMisread heights observations misread → points misread benchmarks ≡ points observations benchmarks
unfolding points
points_same heights benchmarks observations misread h = ap (λ names. distinct (names ++ map (λ row. row.0) benchmarks)) (ends_same heights observations misread h)

weight_same : (weights : WeightRows) (heights : List ℕ → ℤ) (o m : Observed) → ErrsFurther heights o m → weight_of weights m.station m.target ≡ weight_of weights o.station o.target
weight_same weights heights o m e = ap (λ name. weight_of weights name m.target) e.station ∙ ap (weight_of weights o.station) e.target

arriving_same : (heights : List ℕ → ℤ) (point : List ℕ) (observations misread : List Observed) (flows : List ℤ) → AreMisread heights observations misread → arriving misread flows point ≡ arriving observations flows point
arriving_same heights point [] [] flows h = refl
arriving_same heights point [] (m ∷ misread) flows h = absurd h
arriving_same heights point (o ∷ observations) [] flows h = absurd h
arriving_same heights point (o ∷ observations) (m ∷ misread) [] h = refl
arriving_same heights point (o ∷ observations) (m ∷ misread) (flow ∷ flows) h =
    let a = total_by-cons (λ (pair : Observed × ℤ). if bytes_eq pair.0.target point then pair.1 else pos 0) (m, flow) (zip misread flows) in
    let b = total_by-cons (λ (pair : Observed × ℤ). if bytes_eq pair.0.target point then pair.1 else pos 0) (o, flow) (zip observations flows) in
    a ∙ ap (λ name. (if bytes_eq name point then flow else pos 0) +ℤ arriving misread flows point) h.0.target ∙ ap (λ z. (if bytes_eq o.target point then flow else pos 0) +ℤ z) (arriving_same heights point observations misread flows h.1) ∙ sym b

leaving_same : (heights : List ℕ → ℤ) (point : List ℕ) (observations misread : List Observed) (flows : List ℤ) → AreMisread heights observations misread → leaving misread flows point ≡ leaving observations flows point
leaving_same heights point [] [] flows h = refl
leaving_same heights point [] (m ∷ misread) flows h = absurd h
leaving_same heights point (o ∷ observations) [] flows h = absurd h
leaving_same heights point (o ∷ observations) (m ∷ misread) [] h = refl
leaving_same heights point (o ∷ observations) (m ∷ misread) (flow ∷ flows) h =
    let a = total_by-cons (λ (pair : Observed × ℤ). if bytes_eq pair.0.station point then pair.1 else pos 0) (m, flow) (zip misread flows) in
    let b = total_by-cons (λ (pair : Observed × ℤ). if bytes_eq pair.0.station point then pair.1 else pos 0) (o, flow) (zip observations flows) in
    a ∙ ap (λ name. (if bytes_eq name point then flow else pos 0) +ℤ leaving misread flows point) h.0.station ∙ ap (λ z. (if bytes_eq o.station point then flow else pos 0) +ℤ z) (leaving_same heights point observations misread flows h.1) ∙ sym b

bounded_same : (weights : WeightRows) (heights : List ℕ → ℤ) (observations misread : List Observed) (flows : List ℤ) → AreMisread heights observations misread → AllZip (λ o flow. unsigned_abs flow ≤ weight_of weights o.station o.target) observations flows → AllZip (λ o flow. unsigned_abs flow ≤ weight_of weights o.station o.target) misread flows
bounded_same weights heights [] [] flows h bounded = bounded
bounded_same weights heights [] (m ∷ misread) flows h bounded = absurd h
bounded_same weights heights (o ∷ observations) [] flows h bounded = absurd h
bounded_same weights heights (o ∷ observations) (m ∷ misread) [] h bounded = absurd bounded
bounded_same weights heights (o ∷ observations) (m ∷ misread) (flow ∷ flows) h bounded =
    let same = weight_same weights heights o m h.0 in
    let one = bounded.0 in
    (omega arith, bounded_same weights heights observations misread flows h.1 bounded.1)

circulation_same : (benchmarks : BenchmarkRows) (weights : WeightRows) (heights : List ℕ → ℤ) (observations misread : List Observed) (flows : List ℤ) → AreMisread heights observations misread → Circulation observations benchmarks weights flows → Circulation misread benchmarks weights flows
circulation_same benchmarks weights heights observations misread flows h circulation =
    let Balanced : List ℕ → Type 0 = λ point. height_of benchmarks point ≡ None → arriving misread flows point ≡ leaving misread flows point in
    record {
      bounded = bounded_same weights heights observations misread flows h circulation.bounded;
      balanced = subst (All Balanced) (sym (points_same heights benchmarks observations misread h)) (λ k d within free.
          let point = slice_index_or (points observations benchmarks) k d in
          arriving_same heights point observations misread flows h ∙ circulation.balanced k d within free ∙ sym (leaving_same heights point observations misread flows h));
    }

-- ---- the flows still show the heights
one_further : (w w' : ℕ) (f r r' : ℤ) → w' ≡ w → (pos 0 <ℤ r → r ≤ℤ r') → (r <ℤ pos 0 → r' ≤ℤ r) → (r ≡ pos 0 → r' ≡ r) → IsFull w f r → IsFull w' f r'
one_further w w' f r r' same above below fits full =
    by_lt_z (pos 0) r (λ up. further_up (full.0 up) (above up) up) (λ not_up. by_lt_z r (pos 0) (λ down. further_down (full.1 down) (below down) down) (λ not_down. still (fits (omega (arith, ints))) not_up not_down))
  where
    further_up : f ≡ pos w → r ≤ℤ r' → pos 0 <ℤ r → IsFull w' f r'
    further_up whole further up = ((λ up'. omega (arith, ints)), (λ down'. absurd (omega (arith, ints))))

    further_down : f ≡ pos 0 -ℤ pos w → r' ≤ℤ r → r <ℤ pos 0 → IsFull w' f r'
    further_down whole further down = ((λ up'. absurd (omega (arith, ints))), (λ down'. omega (arith, ints)))

    still : r' ≡ r → r ≤ℤ pos 0 → pos 0 ≤ℤ r → IsFull w' f r'
    still flat low high = ((λ up'. absurd (omega (arith, ints))), (λ down'. absurd (omega (arith, ints))))

further_full : (weights : WeightRows) (heights : List ℕ → ℤ) (observations misread : List Observed) (flows : List ℤ) → AreMisread heights observations misread → AreFull observations weights flows heights → AreFull misread weights flows heights
further_full weights heights [] [] flows h full = full
further_full weights heights [] (m ∷ misread) flows h full = absurd h
further_full weights heights (o ∷ observations) [] flows h full = absurd h
further_full weights heights (o ∷ observations) (m ∷ misread) [] h full = absurd full
further_full weights heights (o ∷ observations) (m ∷ misread) (flow ∷ flows) h full =
    let station = ap heights h.0.station in
    let target = ap heights h.0.target in
    (one_further (weight_of weights o.station o.target) (weight_of weights m.station m.target) flow (residual o heights) (residual m heights) (weight_same weights heights o m h.0) (λ up. let d = h.0.above up in omega (arith, ints)) (λ down. let d = h.0.below down in omega (arith, ints)) (λ flat. let d = h.0.fits flat in omega (arith, ints)) full.0, further_full weights heights observations misread flows h.1 full.1)

-- ---- lower best heights would be lower for the observations as they were
-- the heights, one unit lower where the others are lower
abbrev lowered : (List ℕ → ℤ) → (List ℕ → ℤ) → List ℕ → ℤ
lowered heights others name = if lt_z (others name) (heights name) then heights name -ℤ pos 1 else heights name

pub lt_z-true : (a b : ℤ) → lt_z a b ≡ true → a <ℤ b
lt_z-true a b e = grind (arith, ints)

pub lt_z-false : (a b : ℤ) → lt_z a b ≡ false → b ≤ℤ a
lt_z-false a b e = grind (arith, ints)

-- one observation: r is its residual, s the misread one at the others; ht, hs, gt, gs are the heights and the others of its target and station
one_lowered : (t s : Bool) (w w' : ℕ) (f d d' ht hs gt gs : ℤ) → w' ≡ w → (t ≡ true → gt <ℤ ht) → (t ≡ false → ht ≤ℤ gt) → (s ≡ true → gs <ℤ hs) → (s ≡ false → hs ≤ℤ gs) → (d -ℤ (ht -ℤ hs) ≡ pos 0 → d' ≡ d) → IsFull w f (d -ℤ (ht -ℤ hs)) → IsFull w' f (d' -ℤ (gt -ℤ gs)) → IsFull w f (d -ℤ ((if t then ht -ℤ pos 1 else ht) -ℤ (if s then hs -ℤ pos 1 else hs)))
one_lowered true true w w' f d d' ht hs gt gs same t_low t_not s_low s_not fits full other = ((λ up. full.0 (omega (arith, ints))), (λ down. full.1 (omega (arith, ints))))
one_lowered false false w w' f d d' ht hs gt gs same t_low t_not s_low s_not fits full other = ((λ up. full.0 (omega (arith, ints))), (λ down. full.1 (omega (arith, ints))))
one_lowered true false w w' f d d' ht hs gt gs same t_low t_not s_low s_not fits full other =
    let target = t_low refl in
    let station = s_not refl in (
      (λ up. by_lt_z (pos 0) (d -ℤ (ht -ℤ hs)) full.0 (λ flat.
          let unmoved = fits (omega (arith, ints)) in
          let whole = other.0 (omega (arith, ints)) in
          omega (arith, ints))),
      (λ down. full.1 (omega (arith, ints))),
    )
one_lowered false true w w' f d d' ht hs gt gs same t_low t_not s_low s_not fits full other =
    let target = t_not refl in
    let station = s_low refl in (
      (λ up. full.0 (omega (arith, ints))),
      (λ down. by_lt_z (d -ℤ (ht -ℤ hs)) (pos 0) full.1 (λ flat.
          let unmoved = fits (omega (arith, ints)) in
          let whole = other.1 (omega (arith, ints)) in
          omega (arith, ints))),
    )

lowered_full : (weights : WeightRows) (heights others : List ℕ → ℤ) (observations misread : List Observed) (flows : List ℤ) → AreMisread heights observations misread → AreFull observations weights flows heights → AreFull misread weights flows others → AreFull observations weights flows (lowered heights others)
lowered_full weights heights others [] [] flows h full other = full
lowered_full weights heights others [] (m ∷ misread) flows h full other = absurd h
lowered_full weights heights others (o ∷ observations) [] flows h full other = absurd h
lowered_full weights heights others (o ∷ observations) (m ∷ misread) [] h full other = absurd full
lowered_full weights heights others (o ∷ observations) (m ∷ misread) (flow ∷ flows) h full other =
    let ht = heights o.target in
    let hs = heights o.station in
    let gt = others o.target in
    let gs = others o.station in
    let rest : residual m others ≡ m.difference -ℤ (gt -ℤ gs) = ap (λ name. m.difference -ℤ (others name -ℤ others m.station)) h.0.target ∙ ap (λ name. m.difference -ℤ (gt -ℤ others name)) h.0.station in
    let there : IsFull (weight_of weights m.station m.target) flow (m.difference -ℤ (gt -ℤ gs)) = subst (IsFull (weight_of weights m.station m.target) flow) rest other.0 in
    (one_lowered (lt_z gt ht) (lt_z gs hs) (weight_of weights o.station o.target) (weight_of weights m.station m.target) flow o.difference m.difference ht hs gt gs (weight_same weights heights o m h.0) (lt_z-true gt ht) (lt_z-false gt ht) (lt_z-true gs hs) (lt_z-false gs hs) h.0.fits full.0 there, lowered_full weights heights others observations misread flows h.1 full.1 other.1)

lowered_keeps : (benchmarks : BenchmarkRows) (heights others : List ℕ → ℤ) → IsHeights benchmarks heights → IsHeights benchmarks others → IsHeights benchmarks (lowered heights others)
lowered_keeps benchmarks heights others kept others_kept name height listed =
    let h = kept name height listed in
    let g = others_kept name height listed in
    by (lt_z (others name) (heights name)) (lt_z-true (others name) (heights name)) h g
  where
    by : (low : Bool) → (low ≡ true → others name <ℤ heights name) → heights name ≡ height → others name ≡ height → (if low then heights name -ℤ pos 1 else heights name) ≡ height
    by true is h g = let less = is refl in absurd (omega (arith, ints))
    by false is h g = h

not_lower : (heights others : List ℕ → ℤ) (name : List ℕ) → heights name ≤ℤ lowered heights others name → heights name ≤ℤ others name
not_lower heights others name = by (lt_z (others name) (heights name)) (lt_z-false (others name) (heights name))
  where
    by : (low : Bool) → (low ≡ false → heights name ≤ℤ others name) → heights name ≤ℤ (if low then heights name -ℤ pos 1 else heights name) → heights name ≤ℤ others name
    by true is h = absurd (omega (arith, ints))
    by false is h = is refl

pub misread_keeps_low : (observations misread : List Observed) (benchmarks : BenchmarkRows) (weights : WeightRows) (heights : List ℕ → ℤ) (flows : List ℤ) → Low observations benchmarks weights heights → Circulation observations benchmarks weights flows → Shows observations weights flows heights → AreMisread heights observations misread → Low misread benchmarks weights heights
misread_keeps_low observations misread benchmarks weights heights flows low circulation shown h =
    let kept = low.best.kept in
    let full = full_of_shows weights heights observations flows shown in
    let moved = circulation_same benchmarks weights heights observations misread flows h circulation in
    let still = shows_of_full weights heights misread flows (further_full weights heights observations misread flows h full) in
    record {
      best = shown_is_best misread benchmarks weights heights flows kept moved still;
      lowest = λ others is_best.
          let other = full_of_shows weights others misread flows (best_is_shown misread benchmarks weights heights others flows kept moved still is_best) in
          let lower = lowered heights others in
          let lower_shown = shows_of_full weights lower observations flows (lowered_full weights heights others observations misread flows h full other) in
          let lower_best = shown_is_best observations benchmarks weights lower flows (lowered_keeps benchmarks heights others kept is_best.kept) circulation lower_shown in
          let least = low.lowest lower lower_best in
          subst (All (λ point. heights point ≤ℤ others point)) (sym (points_same heights benchmarks observations misread h)) (λ k d within. not_lower heights others (slice_index_or (points observations benchmarks) k d) (least k d within));
    }
