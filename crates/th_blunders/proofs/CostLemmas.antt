-- The sum of the weighted sizes of residuals, one observation further.
use Rattle.std.proofs.Common.{◌≡◌, ◌<◌, ◌≤◌, ◌+◌, ◌*◌, ℕ, ℤ, pos, List, [], Some, length, get_or, map, slice_get, take, unsigned_abs, sym, ap, ◌∙◌, arith}
use Rattle.std.proofs.Math.Nat.{mul-le-mul}
use Rattle.std.proofs.lemmas.List.{get_or-map}
use Rattle.std.proofs.lemmas.List.Sums.{sum_by_more}
use Rattle.std.proofs.lemmas.Option.{get_or_from_slice_get}
use Rattle.th_observations.specs.Observed.{Observed}
use Rattle.th_tables.specs.Limits.{max_weight}
use Rattle.th_tables.specs.Rows.{WeightRows, weight_of}
use Rattle.th_network.specs.Heights.{cost, residual}
use Rattle.th_blunders.specs.Residuals.{residuals}

-- an observation to stand where a list has none
nothing : Observed
nothing = record { station = []; target = []; difference = pos 0; book = 0; line = 0 }

-- what an observation adds to the cost
abbrev pub weighted : WeightRows → (List ℕ → ℤ) → Observed → ℕ
weighted weights heights o = weight_of weights o.station o.target * unsigned_abs (residual o heights)

-- one more weighted size, in the sum
pub cost-more : (weights : WeightRows) (observations : List Observed) (heights : List ℕ → ℤ) (listed : List ℤ) (i total weight size : ℕ) → listed ≡ residuals observations heights → i < length observations
    → slice_get (map (λ o. weight_of weights o.station o.target) observations) i ≡ Some weight → size ≡ unsigned_abs (get_or listed i (pos 0))
    → total ≡ cost (take i observations) weights heights → total + weight * size ≡ cost (take (i + 1) observations) weights heights
cost-more weights observations heights listed i total weight size are within found sized so_far =
    let o : Observed = get_or observations i nothing in
    let weight_is : weight ≡ weight_of weights o.station o.target = sym (get_or_from_slice_get (map (λ o. weight_of weights o.station o.target) observations) i weight weight found)
    ∙ get_or-map (λ o. weight_of weights o.station o.target) observations i nothing weight within in
    let size_is : size ≡ unsigned_abs (residual o heights) = sized ∙ ap (λ listed. unsigned_abs (get_or listed i (pos 0))) are
    ∙ ap unsigned_abs (get_or-map (λ o. residual o heights) observations i nothing (pos 0) within) in
    ap (λ total. total + weight * size) so_far
    ∙ ap (λ weight. cost (take i observations) weights heights + weight * size) weight_is
    ∙ ap (λ size. cost (take i observations) weights heights + weight_of weights o.station o.target * size) size_is
    ∙ sym (sum_by_more (weighted weights heights) observations i nothing within)

-- and in its bound
pub bounded-more : (total i weight size most : ℕ) → total ≤ i * (max_weight * most) → weight ≤ max_weight → size ≤ most → total + weight * size ≤ (i + 1) * (max_weight * most)
bounded-more total i weight size most small light short = omega (arith, mul-le-mul light short)
