-- A change that is moved to the differences: the points, the walks and the balances are the same, and so are the residuals at heights that
-- are lower by the change where it was.
use Rattle.std.proofs.Common.{◌≡◌, ◌≢◌, ℕ, zero, suc, Bool, true, false, ◌+◌, ◌-◌, ◌*◌, ◌<◌, ◌≤◌, ℤ, pos, negsuc, ◌+ℤ◌, ◌-ℤ◌, ◌*ℤ◌, List, [], ◌∷◌, ◌++◌, All, None, bytes_eq, fold, get_or, if◌then◌else◌, length, min, map, unsigned_abs, zip, refl, ap, ◌∙◌, sym, subst, arith}
use Rattle.std.proofs.lemmas.Bool.Decides.{Decides-int_eq}
use Rattle.std.proofs.lemmas.Int.{ints}
use Rattle.std.proofs.lemmas.List.Elements.{All-nil, All-cons, All-get_or, All-head, All-tail, All-weaker}
use Rattle.std.proofs.lemmas.List.Sums.{sum_by-cons}
use Rattle.std.specs.List.{AllZip}
use Rattle.th_observations.specs.Observed.{Observed, largest_difference}
use Rattle.th_tables.specs.Rows.{BenchmarkRows, WeightRows, height_of, weight_of}
use Rattle.th_points.specs.Points.{points}
use Rattle.th_network.specs.Heights.{cost, residual}
use Rattle.th_network.specs.Circulation.{Circulation, Shows, arriving, leaving}
use Rattle.th_network.specs.Networks.{HaveSameEnds, points_between}
use Rattle.th_network.proofs.Balance.{total_by-cons}
use Rattle.th_network.proofs.EndLemmas.{same_points}
use Rattle.th_network.proofs.Products.{times-plus, times-minus}
use Rattle.th_changes.specs.declared.numbers.Number.{Number}
use Rattle.th_changes.specs.Tilted.{tilted_observation}
use Rattle.th_changes.specs.Numbers.{changed_observation, lift, share, touch}
use Rattle.th_changes.specs.Reach.{nearer, reach_of}
use Rattle.std.specs.Ordering.{int_eq}
use Rattle.th_changes.proofs.Changes.{raised}

pub same_ends_tilted : (number : Number) (x : ℤ) (observations : List Observed) → HaveSameEnds observations (map (tilted_observation number x) observations)
same_ends_tilted number x [] = refl
same_ends_tilted number x (o ∷ observations) = ap (λ ends. points_between o ∷ ends) (same_ends_tilted number x observations)

pub points_tilted : (number : Number) (x : ℤ) (observations : List Observed) (benchmarks : BenchmarkRows) → points (map (tilted_observation number x) observations) benchmarks ≡ points observations benchmarks
points_tilted number x observations benchmarks = same_points observations (map (tilted_observation number x) observations) benchmarks (same_ends_tilted number x observations)

-- ---- flows
arriving_tilted : (number : Number) (x : ℤ) (observations : List Observed) (flows : List ℤ) (point : List ℕ) → arriving (map (tilted_observation number x) observations) flows point ≡ arriving observations flows point
arriving_tilted number x [] flows point = refl
arriving_tilted number x (o ∷ observations) [] point = refl
arriving_tilted number x (o ∷ observations) (flow ∷ flows) point =
    let f : Observed × ℤ → ℤ = λ pair. if bytes_eq pair.0.target point then pair.1 else pos 0 in
    total_by-cons f (tilted_observation number x o, flow) (zip (map (tilted_observation number x) observations) flows)
    ∙ ap (λ rest. f (o, flow) +ℤ rest) (arriving_tilted number x observations flows point)
    ∙ sym (total_by-cons f (o, flow) (zip observations flows))

leaving_tilted : (number : Number) (x : ℤ) (observations : List Observed) (flows : List ℤ) (point : List ℕ) → leaving (map (tilted_observation number x) observations) flows point ≡ leaving observations flows point
leaving_tilted number x [] flows point = refl
leaving_tilted number x (o ∷ observations) [] point = refl
leaving_tilted number x (o ∷ observations) (flow ∷ flows) point =
    let f : Observed × ℤ → ℤ = λ pair. if bytes_eq pair.0.station point then pair.1 else pos 0 in
    total_by-cons f (tilted_observation number x o, flow) (zip (map (tilted_observation number x) observations) flows)
    ∙ ap (λ rest. f (o, flow) +ℤ rest) (leaving_tilted number x observations flows point)
    ∙ sym (total_by-cons f (o, flow) (zip observations flows))

bounded_tilted : (number : Number) (x : ℤ) (weights : WeightRows) (observations : List Observed) (flows : List ℤ) → AllZip (λ o flow. unsigned_abs flow ≤ weight_of weights o.station o.target) (map (tilted_observation number x) observations) flows → AllZip (λ o flow. unsigned_abs flow ≤ weight_of weights o.station o.target) observations flows
bounded_tilted number x weights [] [] bounded = bounded
bounded_tilted number x weights [] (flow ∷ flows) bounded = bounded
bounded_tilted number x weights (o ∷ observations) [] bounded = bounded
bounded_tilted number x weights (o ∷ observations) (flow ∷ flows) bounded = (bounded.0, bounded_tilted number x weights observations flows bounded.1)

pub circulation_tilted : (number : Number) (x : ℤ) (observations : List Observed) (benchmarks : BenchmarkRows) (weights : WeightRows) (flows : List ℤ) → Circulation (map (tilted_observation number x) observations) benchmarks weights flows → Circulation observations benchmarks weights flows
circulation_tilted number x observations benchmarks weights flows circulation = record {
  bounded = bounded_tilted number x weights observations flows circulation.bounded;
  balanced = All-weaker (λ point. height_of benchmarks point ≡ None → arriving (map (tilted_observation number x) observations) flows point ≡ leaving (map (tilted_observation number x) observations) flows point)
      (λ point. height_of benchmarks point ≡ None → arriving observations flows point ≡ leaving observations flows point)
      (λ point balanced free. sym (arriving_tilted number x observations flows point) ∙ balanced free ∙ leaving_tilted number x observations flows point)
      (points observations benchmarks)
      (subst (All (λ point. height_of benchmarks point ≡ None → arriving (map (tilted_observation number x) observations) flows point ≡ leaving (map (tilted_observation number x) observations) flows point)) (points_tilted number x observations benchmarks) circulation.balanced);
}

-- ---- residuals
moved : (x d s ls lt ht hs : ℤ) → (d +ℤ x *ℤ (s +ℤ ls -ℤ lt)) -ℤ (ht -ℤ hs) ≡ (d +ℤ x *ℤ s) -ℤ ((ht +ℤ x *ℤ lt) -ℤ (hs +ℤ x *ℤ ls))
moved x d s ls lt ht hs =
    let a = times-minus x (s +ℤ ls) lt in
    let b = times-plus x s ls in
    omega (arith, ints)

pub residual_moved : (number : Number) (x : ℤ) (o : Observed) (heights : List ℕ → ℤ) → residual (tilted_observation number x o) heights ≡ residual (changed_observation number x o) (raised number x heights)
residual_moved number x o heights = moved x o.difference (share number o) (lift number o.station) (lift number o.target) (heights o.target) (heights o.station)

pub shows_moved : (number : Number) (x : ℤ) (weights : WeightRows) (heights : List ℕ → ℤ) (observations : List Observed) (flows : List ℤ) → Shows (map (tilted_observation number x) observations) weights flows heights → Shows (map (changed_observation number x) observations) weights flows (raised number x heights)
shows_moved number x weights heights [] [] shows = shows
shows_moved number x weights heights [] (flow ∷ flows) shows = shows
shows_moved number x weights heights (o ∷ observations) [] shows = shows
shows_moved number x weights heights (o ∷ observations) (flow ∷ flows) shows =
    (subst (λ r. flow *ℤ r ≡ pos (weight_of weights o.station o.target * unsigned_abs r)) (residual_moved number x o heights) shows.0, shows_moved number x weights heights observations flows shows.1)

pub cost_moved : (number : Number) (x : ℤ) (weights : WeightRows) (heights : List ℕ → ℤ) (observations : List Observed) → cost (map (tilted_observation number x) observations) weights heights ≡ cost (map (changed_observation number x) observations) weights (raised number x heights)
cost_moved number x weights heights [] = refl
cost_moved number x weights heights (o ∷ observations) =
    let w = weight_of weights o.station o.target in
    sum_by-cons (λ o. weight_of weights o.station o.target * unsigned_abs (residual o heights)) (tilted_observation number x o) (map (tilted_observation number x) observations)
    ∙ ap (λ r. w * unsigned_abs r + cost (map (tilted_observation number x) observations) weights heights) (residual_moved number x o heights)
    ∙ ap (λ rest. w * unsigned_abs (residual (changed_observation number x o) (raised number x heights)) + rest) (cost_moved number x weights heights observations)
    ∙ sym (sum_by-cons (λ o. weight_of weights o.station o.target * unsigned_abs (residual o (raised number x heights))) (changed_observation number x o) (map (changed_observation number x) observations))

-- ---- reach
shorter : (number : Number) (reach : ℕ) (observations : List Observed) → fold (nearer number) reach observations ≤ reach
shorter number reach [] = omega arith
shorter number reach (o ∷ observations) =
    let rest = shorter number (nearer number reach o) observations in
    let one = by (int_eq (touch number o) (pos 0)) in
    omega arith
  where
    by : (b : Bool) → (if b then reach else min reach (largest_difference - unsigned_abs o.difference)) ≤ reach
    by true = omega arith
    by false = omega arith

abbrev HasRoom : Number → ℕ → Observed → Type 0
HasRoom number x o = touch number o ≢ pos 0 → (unsigned_abs o.difference + x) ≤ largest_difference

has_room : (number : Number) (x reach : ℕ) (observations : List Observed) → All (λ o. unsigned_abs o.difference ≤ largest_difference) observations → x ≤ fold (nearer number) reach observations → All (HasRoom number x) observations
has_room number x reach [] low within = All-nil (HasRoom number x)
has_room number x reach (o ∷ observations) low within =
    All-cons (HasRoom number x) o observations
    (λ touches. by (int_eq (touch number o) (pos 0)) refl touches (omega (arith, shorter number (nearer number reach o) observations)))
    (has_room number x (nearer number reach o) observations (All-tail (λ o. unsigned_abs o.difference ≤ largest_difference) o observations low) within)
  where
    small : unsigned_abs o.difference ≤ largest_difference
    small = All-head (λ o. unsigned_abs o.difference ≤ largest_difference) o observations low

    by : (b : Bool) → int_eq (touch number o) (pos 0) ≡ b → touch number o ≢ pos 0 → x ≤ (if b then reach else min reach (largest_difference - unsigned_abs o.difference)) → (unsigned_abs o.difference + x) ≤ largest_difference
    by true same touches less = absurd (touches ((Decides-int_eq (touch number o) (pos 0)).0 same))
    by false same touches less = omega (arith, small)

pub room_at : (number : Number) (x : ℕ) (observations : List Observed) (o : Observed) (i : ℕ) → All (λ o. unsigned_abs o.difference ≤ largest_difference) observations → x ≤ reach_of number observations → i < length observations → o ≡ get_or observations i o → HasRoom number x o
room_at number x observations o i low within here is =
    subst (HasRoom number x) (sym is) (All-get_or (HasRoom number x) observations i o here (has_room number x largest_difference observations low within))

pub reach_small : (number : Number) (observations : List Observed) → reach_of number observations ≤ largest_difference
reach_small number observations = shorter number largest_difference observations

-- ---- one difference
pub moved_in_range : (d x t : ℤ) → unsigned_abs d ≤ largest_difference → unsigned_abs (x *ℤ t) ≤ unsigned_abs x → (t ≢ pos 0 → (unsigned_abs d + unsigned_abs x) ≤ largest_difference) → unsigned_abs (d +ℤ x *ℤ t) ≤ largest_difference
moved_in_range d x (pos zero) small less room = omega (arith, ints)
moved_in_range d x (pos (suc t)) small less room =
    let near = room (λ e. cc) in
    omega (arith, ints)
moved_in_range d x (negsuc t) small less room =
    let near = room (λ e. cc) in
    omega (arith, ints)

pub observed_same : (a b : Observed) → a.station ≡ b.station → a.target ≡ b.target → a.difference ≡ b.difference → a.book ≡ b.book → a.line ≡ b.line → a ≡ b
observed_same a b station target difference book line =
    ap (λ v. record a { station = v }) station
    ∙ ap (λ v. record a { station = b.station; target = v }) target
    ∙ ap (λ v. record a { station = b.station; target = b.target; difference = v }) difference
    ∙ ap (λ v. record a { station = b.station; target = b.target; difference = b.difference; book = v }) book
    ∙ ap (λ v. record b { line = v }) line
