-- Whatever is added to the residuals, a circulation bounds the cost: its value and what the addition brings are at most the cost in size.
use Rattle.std.proofs.Common.{◌≡◌, ℕ, Bool, true, false, ◌+◌, ◌*◌, ◌≤◌, ℤ, pos, ◌+ℤ◌, ◌-ℤ◌, ◌*ℤ◌, inl, inr, List, [], ◌∷◌, Option, Some, None, sum_by, unsigned_abs, unwrap_or, zip, refl, ap, arith, mul-le-mul_right}
use Rattle.std.proofs.lemmas.Int.{ints, unsigned_abs-mul}
use Rattle.std.proofs.lemmas.List.Sums.{sum_by-cons}
use Rattle.std.proofs.lemmas.List.Elements.{recursion_from_All}
use Rattle.std.specs.List.{AllZip, AllByRecursion}
use Rattle.th_observations.specs.Observed.{Observed}
use Rattle.th_tables.specs.Rows.{BenchmarkRows, WeightRows, height_of, weight_of}
use Rattle.th_points.specs.Points.{points}
use Rattle.th_points.proofs.PointLemmas.{EndsAmong, ends_are_points}
use Rattle.th_network.specs.Heights.{IsHeights, residual}
use Rattle.th_network.specs.Circulation.{Circulation, total_by, arriving, leaving}
use Rattle.th_network.specs.Links.{base, link_difference}
use Rattle.th_network.proofs.Products.{times-plus, times-minus, times_swap}
use Rattle.th_network.proofs.Balance.{carried, InBalance, ZeroUnlessIn, weaker, nothing_carried, total_by-cons}

-- the cost, with so much added to each residual
abbrev pub tilted : (Observed → ℤ) → List Observed → WeightRows → (List ℕ → ℤ) → ℕ
tilted more observations weights heights = sum_by (λ o. weight_of weights o.station o.target * unsigned_abs (residual o heights +ℤ more o)) observations

-- the sum of the flows times the residuals with the addition
abbrev pub pushed : (Observed → ℤ) → (List ℕ → ℤ) → List Observed → List ℤ → ℤ
pushed more heights [] flows = pos 0
pushed more heights (o ∷ observations) [] = pos 0
pushed more heights (o ∷ observations) (flow ∷ flows) = flow *ℤ (residual o heights +ℤ more o) +ℤ pushed more heights observations flows

-- the sum of the flows times f
abbrev pub summed : (Observed → ℤ) → List Observed → List ℤ → ℤ
summed f observations flows = total_by (λ pair. pair.1 *ℤ f pair.0) (zip observations flows)

pub summed-cons : (f : Observed → ℤ) (o : Observed) (observations : List Observed) (flow : ℤ) (flows : List ℤ) → summed f (o ∷ observations) (flow ∷ flows) ≡ flow *ℤ f o +ℤ summed f observations flows
summed-cons f o observations flow flows = total_by-cons (λ pair. pair.1 *ℤ f pair.0) (o, flow) (zip observations flows)

-- one product is at most the weight times the size
product_size : (flow r : ℤ) (w : ℕ) → unsigned_abs flow ≤ w → unsigned_abs (flow *ℤ r) ≤ w * unsigned_abs r
product_size flow r w bound =
    let size = unsigned_abs-mul flow r in
    let more = mul-le-mul_right (unsigned_abs r) bound in
    omega arith

sum_size : (a b : ℤ) (m n : ℕ) → unsigned_abs a ≤ m → unsigned_abs b ≤ n → unsigned_abs (a +ℤ b) ≤ m + n
sum_size a b m n less more = omega (arith, ints)

pushed_size : (more : Observed → ℤ) (weights : WeightRows) (heights : List ℕ → ℤ) (observations : List Observed) (flows : List ℤ) → AllZip (λ o flow. unsigned_abs flow ≤ weight_of weights o.station o.target) observations flows → unsigned_abs (pushed more heights observations flows) ≤ tilted more observations weights heights
pushed_size more weights heights [] [] bounded = omega (arith, ints)
pushed_size more weights heights [] (flow ∷ flows) bounded = absurd bounded
pushed_size more weights heights (o ∷ observations) [] bounded = absurd bounded
pushed_size more weights heights (o ∷ observations) (flow ∷ flows) bounded =
    let w = weight_of weights o.station o.target in
    let one = product_size flow (residual o heights +ℤ more o) w bounded.0 in
    let rest = pushed_size more weights heights observations flows bounded.1 in
    let both = sum_size (flow *ℤ (residual o heights +ℤ more o)) (pushed more heights observations flows) (w * unsigned_abs (residual o heights +ℤ more o)) (tilted more observations weights heights) one rest in
    let p = sum_by-cons (λ o. weight_of weights o.station o.target * unsigned_abs (residual o heights +ℤ more o)) o observations in
    omega arith

-- how far the heights are above those of the benchmarks
abbrev pub above : BenchmarkRows → (List ℕ → ℤ) → List ℕ → ℤ
above benchmarks heights name = heights name -ℤ base benchmarks name

one_pushed : (flow d ht hs bt bs m : ℤ) → flow *ℤ (d -ℤ (ht -ℤ hs) +ℤ m) ≡ flow *ℤ (d +ℤ bs -ℤ bt) +ℤ flow *ℤ m -ℤ flow *ℤ ((ht -ℤ bt) -ℤ (hs -ℤ bs))
one_pushed flow d ht hs bt bs m =
    let split : d -ℤ (ht -ℤ hs) +ℤ m ≡ (d +ℤ bs -ℤ bt) +ℤ m -ℤ ((ht -ℤ bt) -ℤ (hs -ℤ bs)) = omega (arith, ints) in
    let a = ap (λ z. flow *ℤ z) split in
    let b = times-minus flow ((d +ℤ bs -ℤ bt) +ℤ m) ((ht -ℤ bt) -ℤ (hs -ℤ bs)) in
    let c = times-plus flow (d +ℤ bs -ℤ bt) m in
    omega (arith, ints)

pub pushed_parts : (more : Observed → ℤ) (benchmarks : BenchmarkRows) (heights : List ℕ → ℤ) (observations : List Observed) (flows : List ℤ) → pushed more heights observations flows ≡ summed (link_difference benchmarks) observations flows +ℤ summed more observations flows -ℤ carried (above benchmarks heights) observations flows
pushed_parts more benchmarks heights [] flows = omega (arith, ints)
pushed_parts more benchmarks heights (o ∷ observations) [] = omega (arith, ints)
pushed_parts more benchmarks heights (o ∷ observations) (flow ∷ flows) =
    let one = one_pushed flow o.difference (heights o.target) (heights o.station) (base benchmarks o.target) (base benchmarks o.station) (more o) in
    let rest = pushed_parts more benchmarks heights observations flows in
    let v = summed-cons (link_difference benchmarks) o observations flow flows in
    let n = summed-cons more o observations flow flows in
    omega (arith, ints)

-- where a benchmark keeps its height, nothing is above; elsewhere the flows are in balance
in_balance : (observations : List Observed) (benchmarks : BenchmarkRows) (flows : List ℤ) (heights : List ℕ → ℤ) → IsHeights benchmarks heights → (name : List ℕ) → (height_of benchmarks name ≡ None → arriving observations flows name ≡ leaving observations flows name) → InBalance (above benchmarks heights) observations flows name
in_balance observations benchmarks flows heights kept name balanced = by (height_of benchmarks name) refl
  where
    by : (found : Option ℤ) → height_of benchmarks name ≡ found → InBalance (above benchmarks heights) observations flows name
    by None e = inr (balanced e)
    by (Some height) e =
        let at = kept name height e in
        let given : base benchmarks name ≡ height = ap (λ found. unwrap_or found (pos 0)) e in
        inl (omega (arith, ints))

ends_zero : (observations : List Observed) (benchmarks : BenchmarkRows) (u : List ℕ → ℤ) → AllByRecursion (λ o. ZeroUnlessIn (points observations benchmarks) u o.station × ZeroUnlessIn (points observations benchmarks) u o.target) observations
ends_zero observations benchmarks u = weaker (EndsAmong (points observations benchmarks)) (λ o. ZeroUnlessIn (points observations benchmarks) u o.station × ZeroUnlessIn (points observations benchmarks) u o.target) (λ o h. ((λ absent. clash h.0 absent), (λ absent. clash h.1 absent))) observations (ends_are_points observations benchmarks)
  where
    clash : {P : Type 0} {b : Bool} → b ≡ true → b ≡ false → P
    clash present absent = absurd (grind arith)

pub none_carried : (observations : List Observed) (benchmarks : BenchmarkRows) (weights : WeightRows) (flows : List ℤ) (heights : List ℕ → ℤ) → Circulation observations benchmarks weights flows → IsHeights benchmarks heights → carried (above benchmarks heights) observations flows ≡ pos 0
none_carried observations benchmarks weights flows heights circulation kept =
    let names = points observations benchmarks in
    let balanced = recursion_from_All (λ name. height_of benchmarks name ≡ None → arriving observations flows name ≡ leaving observations flows name) names circulation.balanced in
    nothing_carried names (above benchmarks heights) observations flows (weaker (λ name. height_of benchmarks name ≡ None → arriving observations flows name ≡ leaving observations flows name) (InBalance (above benchmarks heights) observations flows) (in_balance observations benchmarks flows heights kept) names balanced) (ends_zero observations benchmarks (above benchmarks heights))

-- the sum of the flows times the residuals is the value and what the addition brings, whatever the heights
pub pushed_value : (more : Observed → ℤ) (observations : List Observed) (benchmarks : BenchmarkRows) (weights : WeightRows) (flows : List ℤ) (heights : List ℕ → ℤ) → Circulation observations benchmarks weights flows → IsHeights benchmarks heights → pushed more heights observations flows ≡ summed (link_difference benchmarks) observations flows +ℤ summed more observations flows
pushed_value more observations benchmarks weights flows heights circulation kept =
    let parts = pushed_parts more benchmarks heights observations flows in
    let none = none_carried observations benchmarks weights flows heights circulation kept in
    omega (arith, ints)

-- so this is at most the cost in size
pub bounds_balanced : (more : Observed → ℤ) (observations : List Observed) (benchmarks : BenchmarkRows) (weights : WeightRows) (flows : List ℤ) (heights : List ℕ → ℤ) → AllZip (λ o flow. unsigned_abs flow ≤ weight_of weights o.station o.target) observations flows → carried (above benchmarks heights) observations flows ≡ pos 0 → unsigned_abs (summed (link_difference benchmarks) observations flows +ℤ summed more observations flows) ≤ tilted more observations weights heights
bounds_balanced more observations benchmarks weights flows heights bounded none =
    let parts = pushed_parts more benchmarks heights observations flows in
    let value : pushed more heights observations flows ≡ summed (link_difference benchmarks) observations flows +ℤ summed more observations flows = omega (arith, ints) in
    let same = ap unsigned_abs value in
    let size = pushed_size more weights heights observations flows bounded in
    omega arith

pub bounds_tilted : (more : Observed → ℤ) (observations : List Observed) (benchmarks : BenchmarkRows) (weights : WeightRows) (flows : List ℤ) (heights : List ℕ → ℤ) → Circulation observations benchmarks weights flows → IsHeights benchmarks heights → unsigned_abs (summed (link_difference benchmarks) observations flows +ℤ summed more observations flows) ≤ tilted more observations weights heights
bounds_tilted more observations benchmarks weights flows heights circulation kept =
    bounds_balanced more observations benchmarks weights flows heights circulation.bounded (none_carried observations benchmarks weights flows heights circulation kept)

-- a sum with a factor, and with two terms
pub summed-times : (x : ℤ) (f : Observed → ℤ) (observations : List Observed) (flows : List ℤ) → summed (λ o. x *ℤ f o) observations flows ≡ x *ℤ summed f observations flows
summed-times x f [] flows = omega (arith, ints)
summed-times x f (o ∷ observations) [] = omega (arith, ints)
summed-times x f (o ∷ observations) (flow ∷ flows) =
    let a = summed-cons (λ o. x *ℤ f o) o observations flow flows in
    let b = ap (λ z. x *ℤ z) (summed-cons f o observations flow flows) in
    let c = times-plus x (flow *ℤ f o) (summed f observations flows) in
    let d = times_swap flow x (f o) in
    let rest = summed-times x f observations flows in
    omega (arith, ints)

pub summed-plus : (f g : Observed → ℤ) (observations : List Observed) (flows : List ℤ) → summed (λ o. f o +ℤ g o) observations flows ≡ summed f observations flows +ℤ summed g observations flows
summed-plus f g [] flows = omega (arith, ints)
summed-plus f g (o ∷ observations) [] = omega (arith, ints)
summed-plus f g (o ∷ observations) (flow ∷ flows) =
    let a = summed-cons (λ o. f o +ℤ g o) o observations flow flows in
    let b = summed-cons f o observations flow flows in
    let c = summed-cons g o observations flow flows in
    let d = times-plus flow (f o) (g o) in
    let rest = summed-plus f g observations flows in
    omega (arith, ints)
