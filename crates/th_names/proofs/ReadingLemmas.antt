-- What is left of a reading is one cost, and that of an ordinary survey.
use Rattle.std.proofs.Common.{◌≡◌, ℕ, ◌*◌, ℤ, List, [], ◌∷◌, map, sum_by, unsigned_abs, refl, ap, sym, arith}
use Rattle.std.specs.List.{AllByRecursion}
use Rattle.std.proofs.lemmas.List.Sums.{sum_by-cons}
use Rattle.std.proofs.lemmas.List.Elements.{recursion_from_All}
use Rattle.th_observations.specs.Observed.{Observed}
use Rattle.th_tables.specs.Rows.{WeightRows, weight_of}
use Rattle.th_network.specs.Heights.{Least, residual, cost}
use Rattle.th_network.specs.Networks.{Survey}
use Rattle.th_names.specs.Readings.{IsLeft, KeepsRead, Reading, read_cost}
use Rattle.th_names.specs.Mended.{KeepsWeights}

-- the cost of what is read, with each observation's own weight
pub own_weights : (read : Observed → Observed) (old new : WeightRows) (heights : List ℕ → ℤ) (observations : List Observed) → AllByRecursion (λ o. weight_of new (read o).station (read o).target ≡ weight_of old o.station o.target) observations → cost (map read observations) new heights ≡ sum_by (λ o. weight_of old o.station o.target * unsigned_abs (residual (read o) heights)) observations
own_weights read old new heights [] same = refl
own_weights read old new heights (o ∷ observations) same =
    let a = sum_by-cons (λ o. weight_of new o.station o.target * unsigned_abs (residual o heights)) (read o) (map read observations) in
    let b = sum_by-cons (λ o. weight_of old o.station o.target * unsigned_abs (residual (read o) heights)) o observations in
    let one = ap (λ w. w * unsigned_abs (residual (read o) heights)) same.0 in
    let rest = own_weights read old new heights observations same.1 in
    omega arith

pub ordinary_cost : (survey : Survey) (reading : Reading) (weights : WeightRows) (heights : List ℕ → ℤ) → KeepsWeights survey reading weights → cost (map reading.observation survey.observations) weights heights ≡ read_cost survey reading heights
ordinary_cost survey reading weights heights kept =
    own_weights reading.observation survey.weights weights heights survey.observations (recursion_from_All (λ o. weight_of weights (reading.observation o).station (reading.observation o).target ≡ weight_of survey.weights o.station o.target) survey.observations kept)

pub ordinary : (survey : Survey) (reading : Reading) (weights : WeightRows) (heights : List ℕ → ℤ) → KeepsWeights survey reading weights → Least (map reading.observation survey.observations) (reading.rows survey.benchmarks) weights heights → IsLeft survey reading (cost (map reading.observation survey.observations) weights heights)
ordinary survey reading weights heights kept best = record {
  reached = (heights, best.kept, sym (ordinary_cost survey reading weights heights kept));
  least = λ others others_kept.
      let less = best.least others others_kept in
      let same = ordinary_cost survey reading weights others kept in
      omega arith;
}

pub left_same : (survey : Survey) (reading : Reading) (first second : ℕ) → IsLeft survey reading first → IsLeft survey reading second → first ≡ second
left_same survey reading first second a b = by a.reached b.reached
  where
    by : ((heights : List ℕ → ℤ) × KeepsRead survey reading heights × (read_cost survey reading heights ≡ first)) → ((heights : List ℕ → ℤ) × KeepsRead survey reading heights × (read_cost survey reading heights ≡ second)) → first ≡ second
    by (heights, kept, same) (others, others_kept, other_same) =
        let less = a.least others others_kept in
        let more = b.least heights kept in
        omega arith
