-- Distances from the vertex of a point are how high the others are above it.
use Rattle.std.proofs.Common.{◌≡◌, ℕ, zero, suc, ◌<◌, ◌≤◌, ℤ, pos, ◌-ℤ◌, List, [], ◌∷◌, ◌++◌, ◌+◌, All, Some, get_or, length, map, slice_get, take, slice_index_or, true, unwrap_or, unsigned_abs, refl, ap, sym, ◌∙◌, subst, arith}
use Rattle.std.proofs.lemmas.Int.{ints}
use Rattle.std.proofs.lemmas.List.{length-map, map_more}
use Rattle.std.proofs.lemmas.List.Elements.{All-from_recursion, recursion_from_All}
use Rattle.std.proofs.lemmas.Option.{get_or_from_slice_get, slice_get_within}
use Rattle.th_network.specs.Faults.{IsNetwork}
use Rattle.th_network.specs.Heights.{IsHeights, Least}
use Rattle.th_network.specs.Links.{base, largest_link_difference}
use Rattle.th_network.specs.declared.links.Link.{Link}
use Rattle.th_network.specs.Networks.{IsWeight, Survey, arcs_of, at_points_of, points_of, vertices_of, weights_of}
use Rattle.th_network.specs.Vertices.{vertex_of}
use Rattle.th_network.proofs.FreePoints.{fixed_vertex}
use Rattle.th_network.proofs.NetworkLemmas.{vertex_within}
use Rattle.th_points.proofs.PointLemmas.{ends_are_points, is_among}
use Rattle.th_search.specs.Distances.{AreDistances, AreTight, IsKept, KeepCosts}
use Rattle.th_search.specs.Potentials.{value_at}
use Rattle.th_search.specs.Walks.{IsArc}
use Rattle.th_circulation.specs.Inside.Residuals.{turned}
use Rattle.th_circulation.specs.Inside.Spans.{opposite}
use Rattle.th_circulation.specs.Best.{Best, IsBest}
use Rattle.th_circulation.specs.Settled.{AreShown}
use Rattle.th_circulation.proofs.BestLemmas.{best_is_shown, shown_is_best}
use Rattle.th_circulation.proofs.ExtremeLemmas.{among_at, full_of_kept}
use Rattle.th_circulation.proofs.NearLemmas.{keep_back, keep_turned, tight, tight_turned}
use Rattle.th_circulation.proofs.ResidualLemmas.{IsLink, arcs_within, bounds_kept, links_within}
use Rattle.th_circulation.proofs.SideLemmas.{shows_of_full}
use Rattle.th_circulation.proofs.SpanLemmas.{numbers_keep}
use Rattle.th_circulation.proofs.TiedLemmas.{all_observations_heavy, arcs_in, circulation_ties}
use Rattle.th_circulation.proofs.VertexNumbers.{matched_numbers, numbers_of}
use Rattle.th_names.specs.Inside.Rooted.{exchanged, rise_by, root_of, rooted_arcs}
use Rattle.th_names.specs.Rises.{AreExtremes, AreRises, RisesBy}
use Rattle.th_names.specs.declared.roots.Way.TheVariants.{Down, Up}
use Rattle.th_names.proofs.RootedLemmas.{exchanged_numbers, exchanged_twice, exchanged_within, keeps_rooted, keeps_unrooted, root_gone, rooted_tied}

abbrev vertex_in : Survey → List ℕ → ℕ
vertex_in survey name = vertex_of survey.observations survey.benchmarks name

abbrev numbers_in : Survey → (List ℕ → ℤ) → ℕ → ℤ
numbers_in survey heights = numbers_of survey.observations survey.benchmarks heights

abbrev IsPoint : Survey → List ℕ → Type 0
IsPoint survey name = is_among (points_of survey) name ≡ true

-- ---- the searches may be made
rooted_tight : (survey : Survey) (flows : List ℤ) (known : List ℕ → ℤ) (root : ℕ) → IsNetwork survey.observations survey.benchmarks → All (λ weight. 1 ≤ weight) (weights_of survey) → All (IsArc (vertices_of survey)) (arcs_in survey flows) → AreShown survey flows known → root < vertices_of survey → AreTight (vertices_of survey) (rooted_arcs survey flows root) × AreTight (vertices_of survey) (map turned (rooted_arcs survey flows root))
rooted_tight survey flows known root network heavy ends are within =
    let n = vertices_of survey in
    let tied = rooted_tied survey flows root within (circulation_ties survey flows network (all_observations_heavy survey heavy) are.circulation ends) in
    let numbers = exchanged_numbers root (numbers_in survey known) in
    let keep = keeps_rooted survey flows root (numbers_in survey known) (numbers_keep survey flows known are) in
    (tight n (rooted_arcs survey flows root) numbers tied keep, tight_turned n (rooted_arcs survey flows root) numbers tied keep)

-- ---- numbers that keep the costs are reached by best heights
abbrev heights_by : Survey → ℕ → (ℕ → ℤ) → List ℕ → ℤ
heights_by survey root numbers name = base survey.benchmarks name -ℤ exchanged_numbers root numbers (vertex_in survey name)

heights_keep : (survey : Survey) (root : ℕ) (numbers : ℕ → ℤ) → exchanged_numbers root numbers 0 ≡ pos 0 → IsHeights survey.benchmarks (heights_by survey root numbers)
heights_keep survey root numbers start name height e =
    let at : base survey.benchmarks name ≡ height = ap (λ h. unwrap_or h (pos 0)) e in
    let vertex = ap (exchanged_numbers root numbers) (fixed_vertex survey.observations survey.benchmarks name height e) in
    omega (arith, ints)

heights_are_best : (survey : Survey) (flows : List ℤ) (known : List ℕ → ℤ) (root : ℕ) (numbers : ℕ → ℤ) → AreShown survey flows known → KeepCosts (rooted_arcs survey flows root) numbers → Least survey.observations survey.benchmarks survey.weights (heights_by survey root numbers)
heights_are_best survey flows known root numbers are keep =
    let own = keeps_unrooted survey flows root numbers keep in
    let heights = heights_by survey root numbers in
    let bounds = bounds_kept survey.observations survey.benchmarks survey.weights heights (exchanged_numbers root numbers) survey.observations flows (λ name among. refl) (ends_are_points survey.observations survey.benchmarks) (recursion_from_All (IsKept (exchanged_numbers root numbers)) (arcs_in survey flows) own.along) in
    shown_is_best survey.observations survey.benchmarks survey.weights heights flows (heights_keep survey root numbers own.start) are.circulation (shows_of_full survey.weights heights survey.observations flows (full_of_kept survey.weights heights survey.observations flows are.circulation.bounded bounds))

rise_reached : (survey : Survey) (flows : List ℤ) (known : List ℕ → ℤ) (from to : List ℕ) (numbers : ℕ → ℤ) (rise : ℤ) → AreShown survey flows known → KeepCosts (rooted_arcs survey flows (vertex_in survey from)) numbers → rise ≡ base survey.benchmarks to -ℤ base survey.benchmarks from -ℤ numbers (exchanged (vertex_in survey from) (vertex_in survey to)) → RisesBy survey from to rise
rise_reached survey flows known from to numbers rise are keep is =
    let root = vertex_in survey from in
    let start = ap numbers (root_gone root) ∙ keep.start in
    (heights_by survey root numbers, heights_are_best survey flows known root numbers are keep, omega (arith, ints))

-- ---- and no best heights pass them
others_keep : (survey : Survey) (flows : List ℤ) (known heights : List ℕ → ℤ) → AreShown survey flows known → Least survey.observations survey.benchmarks survey.weights heights → KeepCosts (arcs_in survey flows) (numbers_in survey heights)
others_keep survey flows known heights are best = numbers_keep survey flows heights (record {
  kept = best.kept;
  circulation = are.circulation;
  shows = best_is_shown survey.observations survey.benchmarks survey.weights known heights flows are.kept are.circulation are.shows best;
})

own_number : (survey : Survey) (from to : List ℕ) (heights : List ℕ → ℤ) → IsHeights survey.benchmarks heights → IsPoint survey from → IsPoint survey to → exchanged_numbers (vertex_in survey from) (numbers_in survey heights) (exchanged (vertex_in survey from) (vertex_in survey to)) ≡ (base survey.benchmarks to -ℤ base survey.benchmarks from) -ℤ (heights to -ℤ heights from)
own_number survey from to heights kept from_point to_point =
    let twice = ap (numbers_in survey heights) (exchanged_twice (vertex_in survey from) (vertex_in survey to)) in
    let low = matched_numbers survey.observations survey.benchmarks heights kept from from_point in
    let high = matched_numbers survey.observations survey.benchmarks heights kept to to_point in
    omega (arith, ints)

pub extremes_of : (survey : Survey) (flows : List ℤ) (known : List ℕ → ℤ) (from to : List ℕ) (down up : List ℤ) → AreShown survey flows known → IsPoint survey from → IsPoint survey to → AreDistances (vertices_of survey) (rooted_arcs survey flows (vertex_in survey from)) down → AreDistances (vertices_of survey) (map turned (rooted_arcs survey flows (vertex_in survey from))) up → AreExtremes survey from to (rise_by (root_of survey from) Down (value_at down) (root_of survey to)) (rise_by (root_of survey from) Up (value_at up) (root_of survey to))
extremes_of survey flows known from to down up are from_point to_point downs ups =
    let root = vertex_in survey from in
    let arcs = rooted_arcs survey flows root in
    let at = exchanged root (vertex_in survey to) in
    let within = exchanged_within (vertices_of survey) root (vertex_in survey to) (vertex_within survey.observations survey.benchmarks from from_point) (vertex_within survey.observations survey.benchmarks to to_point) in
    record {
      low_reached = rise_reached survey flows known from to (value_at down) _ are downs.keep (omega (arith, ints));
      high_reached = rise_reached survey flows known from to (opposite (value_at up)) _ are (keep_back (value_at up) arcs ups.keep) (omega (arith, ints));
      least = λ rise reached.
          let numbers = exchanged_numbers root (numbers_in survey reached.0) in
          let keep = keeps_rooted survey flows root (numbers_in survey reached.0) (others_keep survey flows known reached.0 are reached.1) in
          let most = downs.greatest numbers keep at within in
          let own = own_number survey from to reached.0 reached.1.kept from_point to_point in
          let is = reached.2 in
          omega (arith, ints);
      greatest = λ rise reached.
          let numbers = exchanged_numbers root (numbers_in survey reached.0) in
          let keep = keeps_rooted survey flows root (numbers_in survey reached.0) (others_keep survey flows known reached.0 are reached.1) in
          let most = ups.greatest (opposite numbers) (keep_turned numbers arcs keep) at within in
          let own = own_number survey from to reached.0 reached.1.kept from_point to_point in
          let is = reached.2 in
          omega (arith, ints);
    }

-- ---- listed by points
point_at : (survey : Survey) (k : ℕ) (name : List ℕ) → slice_get (points_of survey) k ≡ Some name → IsPoint survey name
point_at survey k name at =
    subst (IsPoint survey) (get_or_from_slice_get (points_of survey) k name [] at) (among_at (points_of survey) k [] (slice_get_within (points_of survey) k name at))

listed_at : (f : List ℕ → ℤ) (names : List (List ℕ)) (k : ℕ) (name : List ℕ) → slice_get names k ≡ Some name → slice_index_or (map f names) k (pos 0) ≡ f name
listed_at f [] k name at = absurd (let within = slice_get_within [] k name at in omega arith)
listed_at f (first ∷ names) zero name at = ap (λ found. f (unwrap_or found first)) at
listed_at f (first ∷ names) (suc k) name at = listed_at f names k name at

pub rises_listed : (survey : Survey) (flows : List ℤ) (known : List ℕ → ℤ) (from : List ℕ) (place : ℕ) (down up low high : List ℤ) → AreShown survey flows known → slice_get (points_of survey) place ≡ Some from → AreDistances (vertices_of survey) (rooted_arcs survey flows (vertex_in survey from)) down → AreDistances (vertices_of survey) (map turned (rooted_arcs survey flows (vertex_in survey from))) up → low ≡ map (λ name. rise_by (root_of survey from) Down (value_at down) (root_of survey name)) (points_of survey) → high ≡ map (λ name. rise_by (root_of survey from) Up (value_at up) (root_of survey name)) (points_of survey) → AreRises survey from low high
rises_listed survey flows known from place down up low high are at downs ups is_low is_high = record {
  each_low = ap length is_low ∙ length-map (points_of survey) falls;
  each_high = ap length is_high ∙ length-map (points_of survey) rises;
  extremes = λ k to to_at.
      let own = extremes_of survey flows known from to down up are (point_at survey place from at) (point_at survey k to to_at) downs ups in
      let own_low = ap (λ ns. slice_index_or ns k (pos 0)) is_low ∙ listed_at falls (points_of survey) k to to_at in
      let own_high = ap (λ ns. slice_index_or ns k (pos 0)) is_high ∙ listed_at rises (points_of survey) k to to_at in
      subst (λ l. AreExtremes survey from to l (slice_index_or high k (pos 0))) (sym own_low) (subst (λ h. AreExtremes survey from to (falls to) h) (sym own_high) own);
}
  where
    falls : List ℕ → ℤ
    falls name = rise_by (root_of survey from) Down (value_at down) (root_of survey name)

    rises : List ℕ → ℤ
    rises name = rise_by (root_of survey from) Up (value_at up) (root_of survey name)

-- ---- listing them, one point after another
pub push_more : (f : List ℕ → ℤ) (names : List (List ℕ)) (i : ℕ) (old new : List ℤ) (rise : ℤ) → new ≡ old ++ rise ∷ [] → old ≡ map f (take i names) → rise ≡ f (get_or names i []) → i < length names → new ≡ map f (take (i + 1) names)
push_more f names i old new rise pushed listed is within =
    pushed ∙ ap (λ rises. rises ++ rise ∷ []) listed ∙ ap (λ own. map f (take i names) ++ own ∷ []) is ∙ sym (map_more f names i [] within)

-- ---- what the searches take and give
links_are_arcs : (survey : Survey) (flows : List ℤ) (links : List Link) → links ≡ arcs_of survey → All (λ link. (link.tail < vertices_of survey) × (link.head < vertices_of survey)) links → All (λ link. unsigned_abs link.diff ≤ largest_link_difference) links → All (IsArc (vertices_of survey)) (arcs_in survey flows)
links_are_arcs survey flows links are ends near =
    let n = vertices_of survey in
    All-from_recursion (IsArc n) (arcs_in survey flows) (arcs_within n (arcs_of survey) (weights_of survey) flows (recursion_from_All (IsLink n) (arcs_of survey) (subst (All (IsLink n)) are (links_within n links ends near))))

all_heavy : (weights : List ℕ) → All IsWeight weights → All (λ weight. 1 ≤ weight) weights
all_heavy weights light = λ k d within. (light k d within).0

pub best_shown : (survey : Survey) (best : Best) → IsBest survey best → AreShown survey best.flows (at_points_of survey best.low)
best_shown survey best is = record { kept = is.low.best.kept; circulation = is.circulation; shows = is.shows_low }

pub searched : (survey : Survey) (best : Best) (root : ℕ) (links : List Link) (weights : List ℕ) → IsBest survey best → IsNetwork survey.observations survey.benchmarks → root < vertices_of survey → links ≡ arcs_of survey → All (λ link. (link.tail < vertices_of survey) × (link.head < vertices_of survey)) links → All (λ link. unsigned_abs link.diff ≤ largest_link_difference) links → weights ≡ weights_of survey → All IsWeight weights → AreTight (vertices_of survey) (rooted_arcs survey best.flows root) × AreTight (vertices_of survey) (map turned (rooted_arcs survey best.flows root))
searched survey best root links weights is network within are ends near weigh light =
    rooted_tight survey best.flows (at_points_of survey best.low) root network (subst (All (λ weight. 1 ≤ weight)) weigh (all_heavy weights light)) (links_are_arcs survey best.flows links are ends near) (best_shown survey best is) within
