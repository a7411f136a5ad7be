-- What the graph's flows and heights are of the observations and points.
use Rattle.std.proofs.Common.{◌≡◌, ℕ, ◌*◌, ℤ, pos, ◌-ℤ◌, ◌*ℤ◌, List, [], ◌∷◌, Option, true, map, unwrap_or, unsigned_abs, refl, ap, sym, ◌∙◌, subst, arith}
use Rattle.std.proofs.lemmas.Int.{ints}
use Rattle.std.proofs.lemmas.List.{length-map}
use Rattle.std.proofs.lemmas.List.Elements.{All-cons, All-nil, recursion_from_All}
use Rattle.std.specs.Prelude.{◌≤◌, All, length}
use Rattle.std.specs.Option.{IsSome}
use Rattle.std.specs.List.{AllByRecursion}
use Rattle.th_observations.specs.Observed.{Observed}
use Rattle.th_tables.specs.Limits.{max_weight}
use Rattle.th_tables.specs.Rows.{BenchmarkRows, WeightRows, weight_of}
use Rattle.th_points.specs.Points.{points}
use Rattle.th_points.specs.Places.{place_of}
use Rattle.th_network.specs.Circulation.{Circulation, Shows}
use Rattle.th_network.specs.Heights.{IsHeights, heights_at, residual}
use Rattle.th_network.specs.Links.{link_difference, link_of}
use Rattle.th_network.specs.Networks.{AreAtPoints, AreOfObservations, Survey, arcs_of, points_of, weights_of}
use Rattle.th_network.specs.Vertices.{vertex_of}
use Rattle.th_network.specs.declared.links.Link.{Link}
use Rattle.th_points.proofs.PointLemmas.{EndsAmong, ends_are_points, is_among}
use Rattle.th_points.proofs.PlaceLemmas.{at_place_of, benchmark_is_point}
use Rattle.th_circulation.specs.Settled.{IsSettled}
use Rattle.th_circulation.specs.Inside.Flows.{AreBounded, IsFlow, ShowsLinks, residuals}
use Rattle.th_circulation.specs.Inside.Phases.{differences_in}
use Rattle.th_circulation.specs.Inside.PointHeights.{ArePointHeights, point_height}
use Rattle.th_circulation.proofs.NameLemmas.{flow_circulates, shows_same}
use Rattle.th_circulation.proofs.PhaseStarts.{first_differences}

-- listed by points, heights are those that the heights of vertices give
pub listed_point_heights : (observations : List Observed) (benchmarks : BenchmarkRows) (heights : ℕ → ℤ) (listed : List ℤ) (name : List ℕ) → ArePointHeights observations benchmarks heights listed → is_among (points observations benchmarks) name ≡ true → heights_at (points observations benchmarks) listed name ≡ point_height observations benchmarks heights name
listed_point_heights observations benchmarks heights listed name are among =
    let names = points observations benchmarks in
    are (place_of names name) name (at_place_of names name among)

shows_moved : (weights : WeightRows) (u v : List ℕ → ℤ) (names : List (List ℕ)) (observations : List Observed) (flows : List ℤ) → ((name : List ℕ) → is_among names name ≡ true → u name ≡ v name) → AllByRecursion (EndsAmong names) observations → Shows observations weights flows u → Shows observations weights flows v
shows_moved weights u v names [] [] same ends shows = tt
shows_moved weights u v names [] (flow ∷ flows) same ends shows = absurd shows
shows_moved weights u v names (o ∷ observations) [] same ends shows = absurd shows
shows_moved weights u v names (o ∷ observations) (flow ∷ flows) same ends shows =
    let station = same o.station ends.0.0 in
    let target = same o.target ends.0.1 in
    let moved : residual o u ≡ residual o v = omega (arith, ints) in
    (subst (λ r. flow *ℤ r ≡ pos (weight_of weights o.station o.target * unsigned_abs r)) moved shows.0, shows_moved weights u v names observations flows same ends.1 shows.1)

differences_are : (all : List Observed) (benchmarks : BenchmarkRows) (observations : List Observed) → map (λ (link : Link). link.diff) (map (link_of all benchmarks) observations) ≡ map (link_difference benchmarks) observations
differences_are all benchmarks [] = refl
differences_are all benchmarks (o ∷ observations) = ap (λ (ds : List ℤ). link_difference benchmarks o ∷ ds) (differences_are all benchmarks observations)

-- a flow of the graph is a circulation
pub settled_circulates : (survey : Survey) (links : List Link) (weights : List ℕ) (flows : List ℤ) → links ≡ arcs_of survey → weights ≡ weights_of survey → IsFlow links weights flows → Circulation survey.observations survey.benchmarks survey.weights flows
settled_circulates survey links weights flows l w flow =
    flow_circulates survey.observations survey.benchmarks survey.weights flows (subst (λ (ls : List Link). IsFlow ls (weights_of survey) flows) l (subst (λ (ws : List ℕ). IsFlow links ws flows) w flow))

-- heights of the vertices that it shows are, listed by points, heights that it shows
pub settled_shows : (survey : Survey) (links : List Link) (weights : List ℕ) (flows listed : List ℤ) (heights : ℕ → ℤ) → links ≡ arcs_of survey → weights ≡ weights_of survey → IsFlow links weights flows → ShowsLinks weights flows (residuals links (differences_in 0 links) heights) → ArePointHeights survey.observations survey.benchmarks heights listed → Shows survey.observations survey.weights flows (heights_at (points_of survey) listed)
settled_shows survey links weights flows listed heights l w flow shows are =
    let observations = survey.observations in
    let benchmarks = survey.benchmarks in
    let arcs = arcs_of survey in
    let moved : IsFlow arcs (weights_of survey) flows = subst (λ (ls : List Link). IsFlow ls (weights_of survey) flows) l (subst (λ (ws : List ℕ). IsFlow links ws flows) w flow) in
    let diffs = first_differences arcs ∙ differences_are observations benchmarks observations in
    let shown : ShowsLinks (weights_of survey) flows (residuals arcs (map (link_difference benchmarks) observations) heights) = subst (λ (ds : List ℤ). ShowsLinks (weights_of survey) flows (residuals arcs ds heights)) diffs (subst (λ (ls : List Link). ShowsLinks (weights_of survey) flows (residuals ls (differences_in 0 ls) heights)) l (subst (λ (ws : List ℕ). ShowsLinks ws flows (residuals links (differences_in 0 links) heights)) w shows)) in
    let by_vertex = shows_same observations benchmarks survey.weights heights observations flows moved.bounded shown in
    shows_moved survey.weights (point_height observations benchmarks heights) (heights_at (points_of survey) listed) (points_of survey) observations flows (λ name among. sym (listed_point_heights observations benchmarks heights listed name are among)) (ends_are_points observations benchmarks) by_vertex

-- and keep each benchmark
pub settled_keeps : (survey : Survey) (listed : List ℤ) (heights : ℕ → ℤ) → ArePointHeights survey.observations survey.benchmarks heights listed → IsHeights survey.benchmarks (heights_at (points_of survey) listed)
settled_keeps survey listed heights are name height e =
    let observations = survey.observations in
    let benchmarks = survey.benchmarks in
    listed_point_heights observations benchmarks heights listed name are (benchmark_is_point observations benchmarks name (subst IsSome (sym e) refl)) ∙ ap (λ (found : Option ℤ). unwrap_or found (heights (vertex_of observations benchmarks name) -ℤ heights 0)) e

light_flows : (most : ℕ) (weights : List ℕ) (flows : List ℤ) → AllByRecursion (λ weight. weight ≤ most) weights → AreBounded weights flows
    → (length flows ≡ length weights) × All (λ flow. unsigned_abs flow ≤ most) flows
light_flows most [] [] light bounded = (refl, All-nil (λ own. unsigned_abs own ≤ most))
light_flows most [] (flow ∷ flows) light bounded = absurd bounded
light_flows most (weight ∷ weights) [] light bounded = absurd bounded
light_flows most (weight ∷ weights) (flow ∷ flows) light bounded =
    let later = light_flows most weights flows light.1 bounded.1 in
    let within : unsigned_abs flow ≤ most = omega (arith, bounded.0, light.0) in
    (omega (arith, later.0), All-cons (λ own. unsigned_abs own ≤ most) flow flows within later.1)

-- the flows of a graph are one for each observation, and none is larger in size than the greatest weight
pub settled_flows : (survey : Survey) (flows : List ℤ) → All (λ weight. weight ≤ max_weight) (weights_of survey) → IsFlow (arcs_of survey) (weights_of survey) flows
    → AreOfObservations survey flows
settled_flows survey flows light flow =
    let both = light_flows max_weight (weights_of survey) flows (recursion_from_All (λ weight. weight ≤ max_weight) (weights_of survey) light) flow.bounded in
    record { each = both.0 ∙ length-map survey.observations (λ o. weight_of survey.weights o.station o.target); in_range = both.1 }

-- what settled heights and flows are
pub is_settled : (survey : Survey) (links : List Link) (weights : List ℕ) (listed flows : List ℤ) (heights : ℕ → ℤ) → links ≡ arcs_of survey → weights ≡ weights_of survey
    → All (λ weight. weight ≤ max_weight) (weights_of survey) → IsFlow links weights flows → ShowsLinks weights flows (residuals links (differences_in 0 links) heights)
    → ArePointHeights survey.observations survey.benchmarks heights listed → AreAtPoints survey listed → IsSettled survey listed flows
is_settled survey links weights listed flows heights l w light flow shown point_heights at_points = record {
  shown = record {
    kept = settled_keeps survey listed heights point_heights;
    circulation = settled_circulates survey links weights flows l w flow;
    shows = settled_shows survey links weights flows listed heights l w flow shown point_heights;
  };
  at_points = at_points;
  of_observations = settled_flows survey flows light (subst (λ (ls : List Link). IsFlow ls (weights_of survey) flows) l (subst (λ (ws : List ℕ). IsFlow links ws flows) w flow));
}
