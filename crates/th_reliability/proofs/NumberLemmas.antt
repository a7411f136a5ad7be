-- Strengths and controls from least cuts between vertices.
use Rattle.std.proofs.Common.{◌≡◌, ℕ, ◌+◌, ◌-◌, ◌*◌, ◌<◌, ◌≤◌, ℤ, pos, Bool, true, false, not, List, [], ◌∷◌, ◌++◌, length, get_or, slice_get, map, take, Option, Some, None, IsSome, All, Contains, is_none, is_some, if◌then◌else◌, refl, sym, ap, ◌∙◌, subst, arith}
use Rattle.std.specs.Prelude.{slice_index_or, sum_by}
use Rattle.std.proofs.lemmas.Bool.{false≢true}
use Rattle.std.proofs.lemmas.List.{get_or-map, get_or_default, length-map, map-append, take_more}
use Rattle.std.proofs.lemmas.List.Sums.{sum_by-append, sum_by-cons, get_or-le-sum_by}
use Rattle.std.proofs.lemmas.List.Elements.{All-push}
use Rattle.std.proofs.lemmas.Option.{get_or_from_slice_get, slice_get-get_or, slice_get_within}
use Rattle.th_tables.specs.Limits.{max_weight}
use Rattle.th_observations.specs.Observed.{IsBetweenPoints, Observed}
use Rattle.th_tables.specs.Rows.{BenchmarkRows, height_of, weight_of}
use Rattle.th_points.specs.Points.{points}
use Rattle.th_points.specs.Places.{place_of}
use Rattle.th_points.proofs.PlaceLemmas.{ends_at_places, ends_contained}
use Rattle.th_network.specs.Links.{link_of}
use Rattle.th_network.specs.Networks.{Survey, arcs_of, heights_of, points_of, weights_of}
use Rattle.th_network.specs.Vertices.{free_before, vertex_of}
use Rattle.th_network.specs.declared.links.Link.{Link}
use Rattle.th_network.proofs.NetworkLemmas.{free_vertex_at, vertices_apart}
use Rattle.th_network.proofs.FreePoints.{found_at, free_vertex}
use Rattle.th_cuts.specs.declared.edges.Edge.{Edge}
use Rattle.th_cuts.specs.Cuts.{IsLeastCut, Weighted}
use Rattle.th_cuts.specs.CutWeights.{cut_weight, separates}
use Rattle.th_cuts.proofs.CutTreeLemmas.{mirrored, other_side, separated}
use Rattle.th_reliability.specs.Cuts.{IsControl, IsFreeSet, IsStrength, crosses, cut, differ}
use Rattle.th_reliability.specs.Edges.{edge_of, names_in, vertices_in}
use Rattle.th_reliability.specs.Inside.Graphs.{IsGraphOf}
use Rattle.th_reliability.specs.Numbers.{HasControl, HasStrength}
use Rattle.th_reliability.proofs.VertexLemmas.{crossing_same, fixed_vertex, names_are_free, names_cut, vertices_at, vertices_cut, vertices_without_0}

-- ---- edges
none : Observed
none = record { station = []; target = []; difference = pos 0; book = 0; line = 0 }

abbrev made : ℕ → ℕ → ℕ → Edge
made t h w = record { tail = t; head = h; weight = w }

-- the edge of an observation has the ends of its arc and its weight
pub edge_is : (survey : Survey) (i : ℕ) (arc : Link) (weight : ℕ) (o : Observed) → slice_get survey.observations i ≡ Some o → arc ≡ get_or (arcs_of survey) i arc → slice_get (weights_of survey) i ≡ Some weight → (arc.tail ≡ vertex_of survey.observations survey.benchmarks o.station) × (arc.head ≡ vertex_of survey.observations survey.benchmarks o.target) × (weight ≡ weight_of survey.weights o.station o.target)
edge_is survey i arc weight o at read weighs =
    let within = slice_get_within survey.observations i o at in
    let here = get_or_from_slice_get survey.observations i o o at in
    let Linked : Observed → Link = link_of survey.observations survey.benchmarks in
    let heavy : Observed → ℕ = λ x. weight_of survey.weights x.station x.target in
    let link : arc ≡ Linked o = read ∙ get_or-map Linked survey.observations i o arc within ∙ ap Linked here in
    let listed : weight ≡ heavy o = sym (get_or_from_slice_get (weights_of survey) i weight weight weighs) ∙ get_or-map heavy survey.observations i o weight within ∙ ap heavy here in
    (ap (λ (l : Link). l.tail) link, ap (λ (l : Link). l.head) link, listed)

pub edges_more : (survey : Survey) (i : ℕ) (arc : Link) (weight : ℕ) (edges more : List Edge) → i < length survey.observations → arc ≡ get_or (arcs_of survey) i arc → slice_get (weights_of survey) i ≡ Some weight → edges ≡ map (edge_of survey.observations survey.benchmarks survey.weights) (take i survey.observations) → more ≡ edges ++ record { tail = arc.tail; head = arc.head; weight = weight } ∷ [] → more ≡ map (edge_of survey.observations survey.benchmarks survey.weights) (take (i + 1) survey.observations)
edges_more survey i arc weight edges more within read weighs so_far pushed =
    let o = get_or survey.observations i none in
    let f : Observed → Edge = edge_of survey.observations survey.benchmarks survey.weights in
    let is = edge_is survey i arc weight o (slice_get-get_or survey.observations i none within) read weighs in
    let tail = vertex_of survey.observations survey.benchmarks o.station in
    let head = vertex_of survey.observations survey.benchmarks o.target in
    let same : made arc.tail arc.head weight ≡ f o = ap (λ (t : ℕ). made t arc.head weight) is.0 ∙ ap (λ (h : ℕ). made tail h weight) is.1 ∙ ap (made tail head) is.2 in
    let taken : take (i + 1) survey.observations ≡ take i survey.observations ++ o ∷ [] = take_more survey.observations i none within in
    pushed ∙ ap (λ (es : List Edge). es ++ made arc.tail arc.head weight ∷ []) so_far ∙ ap (λ (e : Edge). map f (take i survey.observations) ++ e ∷ []) same ∙ sym (map-append f (take i survey.observations) (o ∷ [])) ∙ ap (map f) (sym taken)

-- ---- a side without vertex 0
record IsOutside (edges : List Edge) (u v value : ℕ) : Type 0 where
  inside : ℕ → Bool
  out : inside 0 ≡ false
  apart : separates inside u v ≡ true
  weighs : cut_weight inside edges ≡ value

outside : (edges : List Edge) (u v value : ℕ) → IsLeastCut edges u v value → IsOutside edges u v value
outside edges u v value least = by (side 0) refl
  where
    side : ℕ → Bool
    side = least.reached.0

    by : (b : Bool) → side 0 ≡ b → IsOutside edges u v value
    by false e = record { inside = side; out = e; apart = least.reached.1; weighs = least.reached.2 }
    by true e = record { inside = λ x. not (side x); out = ap not e; apart = mirrored (side u) (side v) ∙ least.reached.1; weighs = other_side side edges ∙ least.reached.2 }

holds_first : (a b : Bool) → b ≡ false → (if a then (if b then false else true) else b) ≡ true → a ≡ true
holds_first true b out h = refl
holds_first false b out h = absurd (false≢true (sym out ∙ h))

side_weighs : (survey : Survey) (graph : Weighted) (inside : ℕ → Bool) → IsGraphOf survey graph → cut survey.observations survey.weights (names_in survey.observations survey.benchmarks inside) ≡ cut_weight inside graph.edges
side_weighs survey graph inside is = sym (names_cut survey.observations survey.benchmarks survey.weights inside) ∙ sym (is.cuts inside)

set_weighs : (survey : Survey) (graph : Weighted) (inside : List ℕ → Bool) → IsGraphOf survey graph → IsFreeSet survey.benchmarks inside → cut_weight (vertices_in survey.observations survey.benchmarks inside) graph.edges ≡ cut survey.observations survey.weights inside
set_weighs survey graph inside is free = is.cuts (vertices_in survey.observations survey.benchmarks inside) ∙ vertices_cut survey.observations survey.benchmarks survey.weights inside free

-- ---- strengths
strength_is : (survey : Survey) (graph : Weighted) (name : List ℕ) (vertex value : ℕ) → IsGraphOf survey graph → Contains (points_of survey) name → vertex ≡ vertex_of survey.observations survey.benchmarks name → IsLeastCut graph.edges vertex 0 value → IsStrength survey.observations survey.benchmarks survey.weights name value
strength_is survey graph name vertex value is has same least =
    let all = survey.observations in
    let fixed = survey.benchmarks in
    let found = outside graph.edges vertex 0 value least in
    record {
      reached = (
        names_in all fixed found.inside,
        names_are_free all fixed found.inside found.out,
        ap found.inside (sym same) ∙ holds_first (found.inside vertex) (found.inside 0) found.out found.apart,
        side_weighs survey graph found.inside is ∙ found.weighs,
      );
      least = λ inside free here.
          let vertices = vertices_in all fixed inside in
          let holds : vertices vertex ≡ true = ap vertices same ∙ vertices_at all fixed inside name free has ∙ here in
          let most = least.least vertices (separated vertices vertex 0 holds (vertices_without_0 all fixed inside free)) in
          let weighs = set_weighs survey graph inside is free in
          omega arith;
    }

pub strength_none : (survey : Survey) (k : ℕ) (height : ℤ) → slice_get (heights_of survey) k ≡ Some (Some height) → (name : List ℕ) → slice_get (points_of survey) k ≡ Some name → HasStrength survey name None
strength_none survey k height e name at = ap is_some (found_at survey.benchmarks (points_of survey) k name (Some height) e at)

pub strength_some : (survey : Survey) (graph : Weighted) (k before value : ℕ) → IsGraphOf survey graph → slice_get (heights_of survey) k ≡ Some None → before ≡ free_before survey.benchmarks (points_of survey) k → IsLeastCut graph.edges (before + 1) 0 value → (name : List ℕ) → slice_get (points_of survey) k ≡ Some name → HasStrength survey name (Some value)
strength_some survey graph k before value is e counted least name at =
    let free = found_at survey.benchmarks (points_of survey) k name None e at in
    let vertex = free_vertex_at survey.observations survey.benchmarks k name at (ap is_none free) in
    let same : before + 1 ≡ vertex_of survey.observations survey.benchmarks name = omega arith in
    strength_is survey graph name (before + 1) value is (k, slice_get_within (points_of survey) k name at, get_or_from_slice_get (points_of survey) k name name at) same least

-- ---- controls
pub control_is : (survey : Survey) (graph : Weighted) (i : ℕ) (o : Observed) (tail head weight total : ℕ) → IsGraphOf survey graph → slice_get survey.observations i ≡ Some o → tail ≡ vertex_of survey.observations survey.benchmarks o.station → head ≡ vertex_of survey.observations survey.benchmarks o.target → weight ≡ weight_of survey.weights o.station o.target → IsLeastCut graph.edges tail head total → (weight ≤ total) × IsControl survey.observations survey.benchmarks survey.weights o (total - weight)
control_is survey graph i o tail head weight total is at tail_is head_is weight_is least =
    let all = survey.observations in
    let fixed = survey.benchmarks in
    let station = vertex_of all fixed o.station in
    let target = vertex_of all fixed o.target in
    let within = slice_get_within all i o at in
    let here : get_or all i o ≡ o = get_or_from_slice_get all i o o at in
    let ends = subst (λ (x : Observed). Contains (points all fixed) x.station × Contains (points all fixed) x.target) here (ends_contained all fixed i o within) in
    let found = outside graph.edges tail head total least in
    let names = names_in all fixed found.inside in
    let crossing : crosses names o ≡ true = sym (crossing_same (found.inside station) (found.inside target)) ∙ ap (λ (t : ℕ). separates found.inside t target) (sym tail_is) ∙ ap (separates found.inside tail) (sym head_is) ∙ found.apart in
    let weighs : cut all survey.weights names ≡ total = side_weighs survey graph found.inside is ∙ found.weighs in
    let term : Observed → ℕ = λ x. if crosses names x then weight_of survey.weights x.station x.target else 0 in
    let part : term (get_or all i o) ≤ cut all survey.weights names = get_or-le-sum_by term all i o within in
    let own : term (get_or all i o) ≡ weight_of survey.weights o.station o.target = ap term here ∙ ap (λ (b : Bool). if b then weight_of survey.weights o.station o.target else 0) crossing in
    let enough : weight ≤ total = omega arith in (
      enough,
      record {
        reached = (names, names_are_free all fixed found.inside found.out, crossing, omega arith);
        least = λ inside free crosses_it.
            let vertices = vertices_in all fixed inside in
            let at_station = vertices_at all fixed inside o.station free ends.0 in
            let at_target = vertices_at all fixed inside o.target free ends.1 in
            let apart : separates vertices tail head ≡ true = ap (λ (t : ℕ). separates vertices t head) tail_is ∙ ap (separates vertices station) head_is ∙ crossing_same (vertices station) (vertices target) ∙ ap (λ (b : Bool). differ b (vertices target)) at_station ∙ ap (differ (inside o.station)) at_target ∙ crosses_it in
            let most = least.least vertices apart in
            let set = set_weighs survey graph inside is free in
            omega arith;
      },
    )

-- both ends of an observation have one vertex where they are benchmarks
pub control_none : (survey : Survey) (i : ℕ) (o : Observed) → slice_get survey.observations i ≡ Some o → IsBetweenPoints o → vertex_of survey.observations survey.benchmarks o.station ≡ vertex_of survey.observations survey.benchmarks o.target → HasControl survey o None
control_none survey i o at between same = by (height_of fixed o.station) (height_of fixed o.target) refl refl
  where
    all : List Observed
    all = survey.observations

    fixed : BenchmarkRows
    fixed = survey.benchmarks

    by : (a b : Option ℤ) → height_of fixed o.station ≡ a → height_of fixed o.target ≡ b → IsSome (height_of fixed o.station) × IsSome (height_of fixed o.target)
    by (Some x) (Some y) e f = (ap is_some e, ap is_some f)
    by (Some x) None e f =
        let zero = fixed_vertex all fixed o.station (ap is_some e) in
        let some = free_vertex all fixed o.target f in
        absurd (omega arith)
    by None (Some y) e f =
        let zero = fixed_vertex all fixed o.target (ap is_some f) in
        let some = free_vertex all fixed o.station e in
        absurd (omega arith)
    by None None e f =
        let places = ends_at_places all fixed o (i, slice_get_within all i o at, get_or_from_slice_get all i o o at) in
        absurd (between.distinct (vertices_apart all fixed (place_of (points all fixed) o.station) (place_of (points all fixed) o.target) o.station o.target places.0 places.1 e f same))

-- ---- what is read in loops
read_is : (survey : Survey) (list : List Link) (i : ℕ) (d : Link) → list ≡ arcs_of survey → i < length survey.observations → get_or list i d ≡ get_or (arcs_of survey) i (get_or list i d)
read_is survey list i d are within =
    let long = length-map survey.observations (link_of survey.observations survey.benchmarks) in
    ap (λ (links : List Link). get_or links i d) are ∙ get_or_default (arcs_of survey) i d (get_or list i d) (omega arith)

pub edges_pushed : (survey : Survey) (list : List Link) (i : ℕ) (d : Link) (weight : ℕ) (edges more : List Edge) → list ≡ arcs_of survey → i < length survey.observations → slice_get (weights_of survey) i ≡ Some weight → edges ≡ map (edge_of survey.observations survey.benchmarks survey.weights) (take i survey.observations) → more ≡ edges ++ record { tail = (slice_index_or list i d).tail; head = (slice_index_or list i d).head; weight = weight } ∷ [] → more ≡ map (edge_of survey.observations survey.benchmarks survey.weights) (take (i + 1) survey.observations)
edges_pushed survey list i d weight edges more are within weighs so_far pushed = edges_more survey i (get_or list i d) weight edges more within (read_is survey list i d are within) weighs so_far pushed

pub edges_within : (vertices : ℕ) (edges more : List Edge) (edge : Edge) → All (λ edge. (edge.tail < vertices) × (edge.head < vertices)) edges → (edge.tail < vertices) × (edge.head < vertices) → more ≡ edges ++ edge ∷ [] → All (λ edge. (edge.tail < vertices) × (edge.head < vertices)) more
edges_within vertices edges more edge before here pushed = subst (All (λ (edge : Edge). (edge.tail < vertices) × (edge.head < vertices))) (sym pushed) (All-push (λ (edge : Edge). (edge.tail < vertices) × (edge.head < vertices)) edges edge before here)

pub edges_light : (edges more : List Edge) (edge : Edge) (i : ℕ) → sum_by (λ edge. edge.weight) edges ≤ max_weight * i → edge.weight ≤ max_weight → more ≡ edges ++ edge ∷ [] → sum_by (λ edge. edge.weight) more ≤ max_weight * (i + 1)
edges_light edges more edge i before here pushed =
    let weigh : Edge → ℕ = λ e. e.weight in
    let all = ap (sum_by weigh) pushed in
    let both = sum_by-append weigh edges (edge ∷ []) in
    let one = sum_by-cons weigh edge [] in
    omega arith

pub control_some : (survey : Survey) (graph : Weighted) (list : List Link) (i : ℕ) (d : Link) (weight total : ℕ) → IsGraphOf survey graph → list ≡ arcs_of survey → slice_get (weights_of survey) i ≡ Some weight → IsLeastCut graph.edges (slice_index_or list i d).tail (slice_index_or list i d).head total → (o : Observed) → slice_get survey.observations i ≡ Some o → (weight ≤ total) × IsControl survey.observations survey.benchmarks survey.weights o (total - weight)
control_some survey graph list i d weight total is are weighs least o at =
    let ends = edge_is survey i (get_or list i d) weight o at (read_is survey list i d are (slice_get_within survey.observations i o at)) weighs in
    control_is survey graph i o (get_or list i d).tail (get_or list i d).head weight total is at ends.0 ends.1 ends.2 least

pub control_enough : (survey : Survey) (graph : Weighted) (list : List Link) (i : ℕ) (d : Link) (weight total : ℕ) → IsGraphOf survey graph → list ≡ arcs_of survey → slice_get (weights_of survey) i ≡ Some weight → IsLeastCut graph.edges (slice_index_or list i d).tail (slice_index_or list i d).head total → i < length survey.observations → weight ≤ total
control_enough survey graph list i d weight total is are weighs least within = (control_some survey graph list i d weight total is are weighs least (get_or survey.observations i none) (slice_get-get_or survey.observations i none within)).0

pub control_fixed : (survey : Survey) (list : List Link) (i : ℕ) (d : Link) → list ≡ arcs_of survey → All IsBetweenPoints survey.observations → (slice_index_or list i d).tail ≡ (slice_index_or list i d).head → (o : Observed) → slice_get survey.observations i ≡ Some o → HasControl survey o None
control_fixed survey list i d are between same o at =
    let within = slice_get_within survey.observations i o at in
    let Linked : Observed → Link = link_of survey.observations survey.benchmarks in
    let here : get_or survey.observations i o ≡ o = get_or_from_slice_get survey.observations i o o at in
    let link : get_or list i d ≡ Linked o = ap (λ (links : List Link). get_or links i d) are ∙ get_or-map Linked survey.observations i o d within ∙ ap Linked here in
    control_none survey i o at (subst IsBetweenPoints here (between i o within)) (sym (ap (λ (l : Link). l.tail) link) ∙ same ∙ ap (λ (l : Link). l.head) link)
