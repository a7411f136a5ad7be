-- With one unit in place of finer ones, the finer cost is the cost.
use Rattle.std.proofs.Common.{◌≡◌, ℕ, ◌*◌, ℤ, pos, ◌-ℤ◌, ◌*ℤ◌, List, sum_by, unsigned_abs, ap, ◌∙◌, arith}
use Rattle.std.proofs.Math.Path.{fun_ext}
use Rattle.std.proofs.lemmas.Int.{ints}
use Rattle.th_observations.specs.Observed.{Observed}
use Rattle.th_tables.specs.Rows.{WeightRows, weight_of}
use Rattle.th_network.specs.Heights.{cost, fine_cost}
use Rattle.th_network.proofs.laws.least_in_finer_units_is_least.Goals as goal

one-times : (z : ℤ) → pos 1 *ℤ z ≡ z
one-times z = omega (arith, ints)

same_cost : (observations : List Observed) (weights : WeightRows) (heights : List ℕ → ℤ) → fine_cost 1 observations weights heights ≡ cost observations weights heights
same_cost observations weights heights =
    ap (λ f. sum_by f observations) (fun_ext (λ o. ap (λ d. weight_of weights o.station o.target * unsigned_abs (d -ℤ (heights o.target -ℤ heights o.station))) (one-times o.difference)))

pub returns : goal.returns
returns c = λ observations benchmarks weights heights h. record {
  kept = h.kept;
  least = λ others kept.
      let fine = h.least 1 others (omega arith) (λ name height listed. kept name height listed ∙ omega (arith, ints)) in
      let same = same_cost observations weights others in
      omega arith;
}
