-- The lowest best heights where a change was moved to the differences are those of the changed survey, lower by the change where it was.
use Rattle.std.proofs.Common.{◌≡◌, ℕ, ℤ, ◌≤ℤ◌, List, [], ◌∷◌, ◌++◌, All, map, refl, ap, ◌∙◌, sym, subst, arith}
use Rattle.std.proofs.lemmas.Int.{ints}
use Rattle.std.proofs.lemmas.List.Elements.{All-weaker}
use Rattle.std.proofs.Math.Path.{fun_ext}
use Rattle.std.specs.List.{count_by}
use Rattle.th_blunders.specs.Blunders.{is_blunder}
use Rattle.th_blunders.specs.Residuals.{residuals}
use Rattle.th_observations.specs.Observed.{Observed}
use Rattle.th_points.specs.Points.{distinct, ends, points}
use Rattle.th_tables.specs.Rows.{BenchmarkRows}
use Rattle.th_network.specs.Heights.{Least, cost, residual}
use Rattle.th_network.specs.Networks.{Survey}
use Rattle.th_changes.specs.declared.numbers.Number.{Number}
use Rattle.th_changes.specs.Tilted.{tilted, tilted_observation}
use Rattle.th_circulation.specs.Extremes.{AreLowest}
use Rattle.th_explain.specs.Mended.{LeavesBlunders}
use Rattle.th_changes.specs.Numbers.{changed, changed_observation, changed_row}
use Rattle.th_changes.proofs.Changes.{keeps_lowered, keeps_raised, lowered, raised}
use Rattle.th_changes.proofs.TiltLemmas.{cost_moved, points_tilted, residual_moved}

raised_lowered : (number : Number) (x : ℤ) (heights : List ℕ → ℤ) → raised number x (lowered number x heights) ≡ heights
raised_lowered number x heights = fun_ext (λ name. omega (arith, ints))

-- ---- a change leaves the points
ends_changed : (number : Number) (x : ℤ) (observations : List Observed) → ends (map (changed_observation number x) observations) ≡ ends observations
ends_changed number x [] = refl
ends_changed number x (o ∷ observations) = ap (λ names. o.station ∷ o.target ∷ [] ++ names) (ends_changed number x observations)

names_changed : (number : Number) (x : ℤ) (rows : BenchmarkRows) → map (λ row. row.0) (map (changed_row number x) rows) ≡ map (λ row. row.0) rows
names_changed number x [] = refl
names_changed number x (row ∷ rows) = ap (λ names. row.0 ∷ names) (names_changed number x rows)

points_changed : (number : Number) (x : ℤ) (observations : List Observed) (rows : BenchmarkRows) → points (map (changed_observation number x) observations) (map (changed_row number x) rows) ≡ points observations rows
unfolding points
points_changed number x observations rows =
    ap (λ names. distinct (names ++ map (λ row. row.0) (map (changed_row number x) rows))) (ends_changed number x observations)
    ∙ ap (λ names. distinct (ends observations ++ names)) (names_changed number x rows)

-- ---- what it costs
least_moved : (survey : Survey) (number : Number) (x : ℤ) (heights : List ℕ → ℤ) → Least (tilted number x survey).observations survey.benchmarks survey.weights heights → Least (changed number x survey).observations (changed number x survey).benchmarks survey.weights (raised number x heights)
least_moved survey number x heights least = record {
  kept = keeps_raised survey number x heights least.kept;
  least = λ others kept.
      let most = least.least (lowered number x others) (keeps_lowered survey number x others kept) in
      let own = cost_moved number x survey.weights heights survey.observations in
      let other = cost_moved number x survey.weights (lowered number x others) survey.observations ∙ ap (cost (map (changed_observation number x) survey.observations) survey.weights) (raised_lowered number x others) in
      omega (arith, own, other, most);
}

least_back : (survey : Survey) (number : Number) (x : ℤ) (heights : List ℕ → ℤ) → Least (changed number x survey).observations (changed number x survey).benchmarks survey.weights heights → Least (tilted number x survey).observations survey.benchmarks survey.weights (lowered number x heights)
least_back survey number x heights least = record {
  kept = keeps_lowered survey number x heights least.kept;
  least = λ others kept.
      let most = least.least (raised number x others) (keeps_raised survey number x others kept) in
      let own = cost_moved number x survey.weights (lowered number x heights) survey.observations ∙ ap (cost (map (changed_observation number x) survey.observations) survey.weights) (raised_lowered number x heights) in
      let other = cost_moved number x survey.weights others survey.observations in
      omega (arith, own, other, most);
}

pub lowest_moved : (survey : Survey) (number : Number) (x : ℤ) (heights : List ℕ → ℤ) → AreLowest (tilted number x survey) heights → AreLowest (changed number x survey) (raised number x heights)
lowest_moved survey number x heights low = record {
  best = least_moved survey number x heights low.best;
  lowest = λ others best. subst (All (λ name. raised number x heights name ≤ℤ others name)) (points_tilted number x survey.observations survey.benchmarks ∙ sym (points_changed number x survey.observations survey.benchmarks))
      (All-weaker (λ name. heights name ≤ℤ lowered number x others name) (λ name. raised number x heights name ≤ℤ others name) (λ name less. omega (arith, ints)) (points (map (tilted_observation number x) survey.observations) survey.benchmarks) (low.lowest (lowered number x others) (least_back survey number x others best)));
}

-- ---- what it leaves
residuals_moved : (number : Number) (x : ℤ) (heights : List ℕ → ℤ) (observations : List Observed) → residuals (map (tilted_observation number x) observations) heights ≡ residuals (map (changed_observation number x) observations) (raised number x heights)
residuals_moved number x heights [] = refl
residuals_moved number x heights (o ∷ observations) =
    ap (λ r. r ∷ residuals (map (tilted_observation number x) observations) heights) (residual_moved number x o heights)
    ∙ ap (λ rest. residual (changed_observation number x o) (raised number x heights) ∷ rest) (residuals_moved number x heights observations)

pub blunders_moved : (survey : Survey) (number : Number) (x limit : ℤ) (heights : List ℕ → ℤ) (left : List ℤ) (count : ℕ) → AreLowest (tilted number x survey) heights → left ≡ residuals (tilted number x survey).observations heights → count ≡ count_by (is_blunder limit) left → LeavesBlunders survey number x limit count
blunders_moved survey number x limit heights left count low are counted =
    (raised number x heights, lowest_moved survey number x heights low, counted ∙ ap (count_by (is_blunder limit)) (are ∙ residuals_moved number x heights survey.observations))
