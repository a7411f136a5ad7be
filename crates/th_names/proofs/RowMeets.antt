-- Of two best heights where a benchmark is set free, the lower ones and the higher ones are best too.
use Rattle.std.proofs.Common.{◌≡◌, ℕ, Bool, true, false, ◌+◌, ◌*◌, ◌≤◌, ℤ, pos, ◌-ℤ◌, ◌*ℤ◌, ◌≤ℤ◌, inl, inr, List, [], ◌∷◌, bytes_eq, if◌then◌else◌, unsigned_abs, subst, arith}
use Rattle.std.proofs.lemmas.Int.{ints}
use Rattle.std.proofs.lemmas.List.Sums.{sum_by-cons}
use Rattle.th_observations.specs.Observed.{Observed}
use Rattle.th_tables.specs.Rows.{WeightRows, weight_of}
use Rattle.th_network.specs.Heights.{cost, residual}
use Rattle.th_network.specs.Networks.{Survey}
use Rattle.th_changes.specs.declared.numbers.Number.TheVariants.{Benchmark}
use Rattle.th_changes.specs.Numbers.{changed}
use Rattle.th_changes.specs.Freed.{Keeps}
use Rattle.th_changes.proofs.Changes.{keeps_lowered, keeps_raised, lowered}
use Rattle.th_names.specs.Fits.{AreBestFreed}
use Rattle.th_names.proofs.MeetLemmas.{IsMeet, greater, greater_over, lesser, lesser_under, meets, one_meet}
use Rattle.th_names.proofs.PointLemmas.{benchmark_cost, raised_lowered}

abbrev lower : (g h : List ℕ → ℤ) → List ℕ → ℤ
lower g h name = lesser (g name) (h name)

abbrev higher : (g h : List ℕ → ℤ) → List ℕ → ℤ
higher g h name = greater (g name) (h name)

cost_meet : (weights : WeightRows) (g h : List ℕ → ℤ) (observations : List Observed) → (cost observations weights (lower g h) + cost observations weights (higher g h)) ≤ (cost observations weights g + cost observations weights h)
cost_meet weights g h [] = omega arith
cost_meet weights g h (o ∷ observations) =
    let of_g = sum_by-cons (λ o. weight_of weights o.station o.target * unsigned_abs (residual o g)) o observations in
    let of_h = sum_by-cons (λ o. weight_of weights o.station o.target * unsigned_abs (residual o h)) o observations in
    let of_low = sum_by-cons (λ o. weight_of weights o.station o.target * unsigned_abs (residual o (lower g h))) o observations in
    let of_high = sum_by-cons (λ o. weight_of weights o.station o.target * unsigned_abs (residual o (higher g h))) o observations in
    let one = one_meet (weight_of weights o.station o.target) o.difference (g o.station) (g o.target) (h o.station) (h o.target) (lower g h o.station) (higher g h o.station) (lower g h o.target) (higher g h o.target) (meets (g o.station) (h o.station)) (meets (g o.target) (h o.target)) in
    let rest = cost_meet weights g h observations in
    omega arith

one_kept : (b : Bool) (height x y u v low high : ℤ) → u -ℤ x *ℤ (if b then pos 1 else pos 0) ≡ height → v -ℤ y *ℤ (if b then pos 1 else pos 0) ≡ height → x ≤ℤ y → IsMeet u v low high → (low -ℤ x *ℤ (if b then pos 1 else pos 0) ≡ height) × (high -ℤ y *ℤ (if b then pos 1 else pos 0) ≡ height)
one_kept true height x y u v low high e f less (inl (a, b, c)) = (omega (arith, ints), omega (arith, ints))
one_kept true height x y u v low high e f less (inr (a, b, c)) = (omega (arith, ints), omega (arith, ints))
one_kept false height x y u v low high e f less (inl (a, b, c)) = (omega (arith, ints), omega (arith, ints))
one_kept false height x y u v low high e f less (inr (a, b, c)) = (omega (arith, ints), omega (arith, ints))

both_kept : (survey : Survey) (benchmark : List ℕ) (x y : ℤ) (g h : List ℕ → ℤ) → Keeps (changed (Benchmark benchmark) x survey) g → Keeps (changed (Benchmark benchmark) y survey) h → x ≤ℤ y → Keeps (changed (Benchmark benchmark) x survey) (lower g h) × Keeps (changed (Benchmark benchmark) y survey) (higher g h)
both_kept survey benchmark x y g h of_g of_h less = (
  subst (Keeps (changed (Benchmark benchmark) x survey)) (raised_lowered (Benchmark benchmark) x (lower g h)) (keeps_raised survey (Benchmark benchmark) x (lowered (Benchmark benchmark) x (lower g h)) (λ name height listed. (at name height (keeps_lowered survey (Benchmark benchmark) x g of_g name height listed) (keeps_lowered survey (Benchmark benchmark) y h of_h name height listed)).0)),
  subst (Keeps (changed (Benchmark benchmark) y survey)) (raised_lowered (Benchmark benchmark) y (higher g h)) (keeps_raised survey (Benchmark benchmark) y (lowered (Benchmark benchmark) y (higher g h)) (λ name height listed. (at name height (keeps_lowered survey (Benchmark benchmark) x g of_g name height listed) (keeps_lowered survey (Benchmark benchmark) y h of_h name height listed)).1)),
)
  where
    at : (name : List ℕ) (height : ℤ) → lowered (Benchmark benchmark) x g name ≡ height → lowered (Benchmark benchmark) y h name ≡ height → (lowered (Benchmark benchmark) x (lower g h) name ≡ height) × (lowered (Benchmark benchmark) y (higher g h) name ≡ height)
    at name height e f = one_kept (bytes_eq benchmark name) height x y (g name) (h name) (lower g h name) (higher g h name) e f less (meets (g name) (h name))

both_best : (survey : Survey) (benchmark : List ℕ) (freed : ℕ) (x y : ℤ) (g h : List ℕ → ℤ) → AreBestFreed survey (Benchmark benchmark) freed x g → AreBestFreed survey (Benchmark benchmark) freed y h → x ≤ℤ y → AreBestFreed survey (Benchmark benchmark) freed x (lower g h) × AreBestFreed survey (Benchmark benchmark) freed y (higher g h)
both_best survey benchmark freed x y g h best_g best_h less =
    let kept = both_kept survey benchmark x y g h best_g.kept best_h.kept less in
    let sum = cost_meet survey.weights g h survey.observations in
    let of_g = benchmark_cost survey benchmark x g in
    let of_h = benchmark_cost survey benchmark y h in
    let of_low = benchmark_cost survey benchmark x (lower g h) in
    let of_high = benchmark_cost survey benchmark y (higher g h) in
    let low_least = best_g.is_freed.least x (lower g h) kept.0 in
    let high_least = best_g.is_freed.least y (higher g h) kept.1 in
    let reached_g = best_g.reached in
    let reached_h = best_h.reached in (
      record { is_freed = best_g.is_freed; kept = kept.0; reached = omega arith },
      record { is_freed = best_g.is_freed; kept = kept.1; reached = omega arith },
    )

pub point_lower : (survey : Survey) (benchmark : List ℕ) (freed : ℕ) (x y : ℤ) (heights others : List ℕ → ℤ) → AreBestFreed survey (Benchmark benchmark) freed x heights → AreBestFreed survey (Benchmark benchmark) freed y others → x ≤ℤ y → (lower : List ℕ → ℤ) × AreBestFreed survey (Benchmark benchmark) freed x lower × ((point : List ℕ) → lower point ≤ℤ others point)
point_lower survey benchmark freed x y heights others best best_others less =
    (lower heights others, (both_best survey benchmark freed x y heights others best best_others less).0, λ point. lesser_under (heights point) (others point))

pub point_higher : (survey : Survey) (benchmark : List ℕ) (freed : ℕ) (x y : ℤ) (heights others : List ℕ → ℤ) → AreBestFreed survey (Benchmark benchmark) freed x heights → AreBestFreed survey (Benchmark benchmark) freed y others → y ≤ℤ x → (higher : List ℕ → ℤ) × AreBestFreed survey (Benchmark benchmark) freed x higher × ((point : List ℕ) → others point ≤ℤ higher point)
point_higher survey benchmark freed x y heights others best best_others less =
    (higher others heights, (both_best survey benchmark freed y x others heights best_others best less).1, λ point. greater_over (others point) (heights point))
