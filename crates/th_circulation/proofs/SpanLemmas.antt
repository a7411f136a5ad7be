-- Distances of the residual arcs are how far the lowest and the highest best heights are from the benchmarks.
use Rattle.std.proofs.Common.{◌≡◌, ℕ, ◌≤◌, ℤ, pos, List, All, map, slice_index_or, sym, subst, arith}
use Rattle.std.proofs.lemmas.Int.{ints}
use Rattle.std.proofs.lemmas.List.Elements.{All-from_recursion, recursion_from_All}
use Rattle.th_network.specs.Circulation.{Circulation}
use Rattle.th_network.specs.Faults.{IsNetwork}
use Rattle.th_network.specs.Heights.{IsHeights, Least, heights_at}
use Rattle.th_network.specs.Networks.{Survey, points_of, vertices_of, weights_of}
use Rattle.th_network.specs.Vertices.{vertex_of}
use Rattle.th_network.proofs.NetworkLemmas.{vertex_within}
use Rattle.th_points.proofs.PointLemmas.{ends_are_points}
use Rattle.th_search.specs.declared.arcs.Arc.{Arc}
use Rattle.th_search.specs.Potentials.{value_at}
use Rattle.th_search.specs.Walks.{IsArc}
use Rattle.th_circulation.specs.Extremes.{High, Low}
use Rattle.th_circulation.specs.Settled.{AreShown}
use Rattle.th_search.specs.Distances.{AreTight, IsKept, KeepCosts}
use Rattle.th_circulation.specs.Inside.Spans.{AreAbove, AreBelow, opposite}
use Rattle.th_circulation.specs.Inside.PointHeights.{ArePointHeights}
use Rattle.th_circulation.specs.Inside.Residuals.{turned}
use Rattle.th_circulation.proofs.BestLemmas.{best_is_shown, shown_is_best}
use Rattle.th_circulation.proofs.ExtremeLemmas.{among_at, full_of_kept, kept_of_full}
use Rattle.th_circulation.proofs.NameLemmas.{point_height_parts}
use Rattle.th_circulation.proofs.NearLemmas.{keep_back, keep_turned, tight, tight_turned}
use Rattle.th_circulation.proofs.ResidualLemmas.{AreMatched, arcs_kept, bounds_kept}
use Rattle.th_circulation.proofs.SettledLemmas.{listed_point_heights, settled_keeps}
use Rattle.th_circulation.proofs.SideLemmas.{full_of_shows, shows_of_full}
use Rattle.th_circulation.proofs.TiedLemmas.{all_observations_heavy, arcs_in, circulation_ties}
use Rattle.th_circulation.proofs.VertexNumbers.{matched_numbers, numbers_of, numbers_start}

abbrev numbers_in : Survey → (List ℕ → ℤ) → ℕ → ℤ
numbers_in survey heights = numbers_of survey.observations survey.benchmarks heights

-- the numbers of heights that the flows show keep the costs
pub numbers_keep : (survey : Survey) (flows : List ℤ) (heights : List ℕ → ℤ) → AreShown survey flows heights → KeepCosts (arcs_in survey flows) (numbers_of survey.observations survey.benchmarks heights)
numbers_keep survey flows heights are = record {
  start = numbers_start survey.observations survey.benchmarks heights are.kept;
  along = All-from_recursion (IsKept (numbers_in survey heights)) (arcs_in survey flows) (
      arcs_kept survey.observations survey.benchmarks survey.weights heights (numbers_in survey heights) survey.observations flows (matched_numbers survey.observations survey.benchmarks heights are.kept) (ends_are_points survey.observations survey.benchmarks) (
      kept_of_full survey.weights heights survey.observations flows (full_of_shows survey.weights heights survey.observations flows are.shows)));
}

-- heights that match numbers which keep the costs are best
best_of : (survey : Survey) (flows : List ℤ) (heights : List ℕ → ℤ) (numbers : ℕ → ℤ) → Circulation survey.observations survey.benchmarks survey.weights flows → IsHeights survey.benchmarks heights → AreMatched survey.observations survey.benchmarks heights numbers → KeepCosts (arcs_in survey flows) numbers → Least survey.observations survey.benchmarks survey.weights heights
best_of survey flows heights numbers circulation kept matched keep =
    let bounds = bounds_kept survey.observations survey.benchmarks survey.weights heights numbers survey.observations flows matched (ends_are_points survey.observations survey.benchmarks) (recursion_from_All (IsKept numbers) (arcs_in survey flows) keep.along) in
    shown_is_best survey.observations survey.benchmarks survey.weights heights flows kept circulation (shows_of_full survey.weights heights survey.observations flows (full_of_kept survey.weights heights survey.observations flows circulation.bounded bounds))

-- the numbers of other best heights keep the costs
others_keep : (survey : Survey) (flows : List ℤ) (heights others : List ℕ → ℤ) → AreShown survey flows heights → Least survey.observations survey.benchmarks survey.weights others → KeepCosts (arcs_in survey flows) (numbers_in survey others)
others_keep survey flows heights others are best = numbers_keep survey flows others (record {
  kept = best.kept;
  circulation = are.circulation;
  shows = best_is_shown survey.observations survey.benchmarks survey.weights heights others flows are.kept are.circulation are.shows best;
})

-- ---- listed by points
matched_below : (survey : Survey) (numbers : ℕ → ℤ) (heights : List ℤ) → numbers 0 ≡ pos 0 → ArePointHeights survey.observations survey.benchmarks (opposite numbers) heights → AreMatched survey.observations survey.benchmarks (heights_at (points_of survey) heights) numbers
matched_below survey numbers heights start are name among =
    let listed = listed_point_heights survey.observations survey.benchmarks (opposite numbers) heights name are among in
    let parts = point_height_parts survey.observations survey.benchmarks (opposite numbers) name in
    omega (arith, ints)

matched_above : (survey : Survey) (numbers : ℕ → ℤ) (heights : List ℤ) → numbers 0 ≡ pos 0 → ArePointHeights survey.observations survey.benchmarks numbers heights → AreMatched survey.observations survey.benchmarks (heights_at (points_of survey) heights) (opposite numbers)
matched_above survey numbers heights start are name among =
    let listed = listed_point_heights survey.observations survey.benchmarks numbers heights name are among in
    let parts = point_height_parts survey.observations survey.benchmarks numbers name in
    omega (arith, ints)

pub low_found : (survey : Survey) (flows : List ℤ) (known : List ℕ → ℤ) (heights : List ℤ) → AreShown survey flows known → AreBelow survey (arcs_in survey flows) heights → Low survey.observations survey.benchmarks survey.weights (heights_at (points_of survey) heights)
low_found survey flows known heights are below =
    let names = points_of survey in
    let numbers = value_at below.distances in
    let matched = matched_below survey numbers heights below.long.keep.start below.point_heights in
    record {
      best = best_of survey flows (heights_at names heights) numbers are.circulation (settled_keeps survey heights (opposite numbers) below.point_heights) matched below.long.keep;
      lowest = λ others best k d within.
          let name = slice_index_or names k d in
          let among = among_at names k d within in
          let here = matched name among in
          let there = matched_numbers survey.observations survey.benchmarks others best.kept name among in
          let most = below.long.greatest (numbers_in survey others) (others_keep survey flows known others are best) (vertex_of survey.observations survey.benchmarks name) (vertex_within survey.observations survey.benchmarks name among) in
          omega (arith, ints);
    }

pub high_found : (survey : Survey) (flows : List ℤ) (known : List ℕ → ℤ) (heights : List ℤ) → AreShown survey flows known → AreAbove survey (map turned (arcs_in survey flows)) heights → High survey.observations survey.benchmarks survey.weights (heights_at (points_of survey) heights)
high_found survey flows known heights are above =
    let names = points_of survey in
    let numbers = value_at above.distances in
    let matched = matched_above survey numbers heights above.long.keep.start above.point_heights in
    record {
      best = best_of survey flows (heights_at names heights) (opposite numbers) are.circulation (settled_keeps survey heights numbers above.point_heights) matched (keep_back numbers (arcs_in survey flows) above.long.keep);
      highest = λ others best k d within.
          let name = slice_index_or names k d in
          let among = among_at names k d within in
          let here = matched name among in
          let there = matched_numbers survey.observations survey.benchmarks others best.kept name among in
          let most = above.long.greatest (opposite (numbers_in survey others)) (keep_turned (numbers_in survey others) (arcs_in survey flows) (others_keep survey flows known others are best)) (vertex_of survey.observations survey.benchmarks name) (vertex_within survey.observations survey.benchmarks name among) in
          omega (arith, ints);
    }

-- ---- distances are found, both ways
pub shown_tight : (survey : Survey) (flows : List ℤ) (known : List ℕ → ℤ) (arcs : List Arc) → IsNetwork survey.observations survey.benchmarks → All (λ weight. 1 ≤ weight) (weights_of survey) → AreShown survey flows known → arcs ≡ arcs_in survey flows → All (IsArc (vertices_of survey)) arcs → AreTight (vertices_of survey) arcs × AreTight (vertices_of survey) (map turned arcs)
shown_tight survey flows known arcs network heavy are is ends =
    let n = vertices_of survey in
    let own = arcs_in survey flows in
    let tied = circulation_ties survey flows network (all_observations_heavy survey heavy) are.circulation (subst (All (IsArc n)) is ends) in
    let numbers = numbers_in survey known in
    let keep = numbers_keep survey flows known are in
    (subst (AreTight n) (sym is) (tight n own numbers tied keep), subst (λ (others : List Arc). AreTight n (map turned others)) (sym is) (tight_turned n own numbers tied keep))
