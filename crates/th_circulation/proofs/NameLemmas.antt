-- From links back to observations: a flow of the links of observations is their circulation.
use Rattle.std.proofs.lemmas.Int.{ints}
use Rattle.std.proofs.Common.{◌≡◌, ℕ, Bool, true, false, ◌≤◌, ℤ, pos, ◌+ℤ◌, List, [], ◌∷◌, Option, Some, None, bytes_eq, eqb, map, zip, if◌then◌else◌, unsigned_abs, slice_get, refl, ap, sym, ◌∙◌, arith, ◌-ℤ◌, ◌*ℤ◌, ◌*◌, subst, unwrap_or}
use Rattle.std.proofs.lemmas.Bool.{eq-eqb, eqb-true}
use Rattle.std.proofs.lemmas.Slice.Eq.{bytes_eq-Decides}
use Rattle.std.proofs.lemmas.Option.{slice_get-get_or}
use Rattle.std.specs.Prelude.{slice_index_or}
use Rattle.std.specs.List.{AllZip, AllByRecursion}
use Rattle.th_observations.specs.Observed.{Observed}
use Rattle.th_tables.specs.Rows.{BenchmarkRows, WeightRows, height_of, weight_of}
use Rattle.th_points.specs.Points.{points}
use Rattle.th_points.specs.Places.{place_of}
use Rattle.th_network.specs.Vertices.{vertex_of}
use Rattle.th_network.specs.Links.{base, link_difference, link_of}
use Rattle.th_network.specs.Circulation.{Circulation, Shows, arriving as arriving_at, leaving as leaving_at}
use Rattle.th_network.specs.declared.links.Link.{Link}
use Rattle.th_network.proofs.Balance.{total_by-cons, weaker}
use Rattle.th_points.proofs.PointLemmas.{is_among, bytes_eq_same, EndsAmong, ends_are_points}
use Rattle.th_network.proofs.NetworkLemmas.{vertices_apart}
use Rattle.th_points.proofs.PlaceLemmas.{at_place_of}
use Rattle.th_network.specs.Heights.{residual}
use Rattle.th_network.proofs.FreePoints.{fixed_vertex, free_vertex}
use Rattle.th_circulation.specs.Inside.Flows.{IsFlow, ShowsLinks, arriving, leaving, residual as link_residual, residuals}
use Rattle.th_circulation.specs.Inside.PointHeights.{point_height}

pub same_name : (observations : List Observed) (benchmarks : BenchmarkRows) (name point : List ℕ) → is_among (points observations benchmarks) name ≡ true → (k : ℕ) → slice_get (points observations benchmarks) k ≡ Some point → height_of benchmarks point ≡ None → vertex_of observations benchmarks name ≡ vertex_of observations benchmarks point → name ≡ point
same_name observations benchmarks name point among k at free same = by (height_of benchmarks name) refl
  where
    by : (found : Option ℤ) → height_of benchmarks name ≡ found → name ≡ point
    by None e = vertices_apart observations benchmarks (place_of (points observations benchmarks) name) k name point (at_place_of (points observations benchmarks) name among) at e free same
    by (Some height) e =
        let low = fixed_vertex observations benchmarks name height e in
        let high = free_vertex observations benchmarks point free in
        absurd (omega arith)

-- the vertices of an end and of a point that is no benchmark are the same where the names are
abbrev Matches : List Observed → BenchmarkRows → List ℕ → List ℕ → Type 0
Matches observations benchmarks point name = bytes_eq name point ≡ eqb (vertex_of observations benchmarks name) (vertex_of observations benchmarks point)

matches : (observations : List Observed) (benchmarks : BenchmarkRows) (point : List ℕ) (k : ℕ) → slice_get (points observations benchmarks) k ≡ Some point → height_of benchmarks point ≡ None → (name : List ℕ) → is_among (points observations benchmarks) name ≡ true → Matches observations benchmarks point name
matches observations benchmarks point k at free name among = by (bytes_eq name point) (eqb (vertex_of observations benchmarks name) (vertex_of observations benchmarks point)) (bytes_eq-Decides name point).0 refl (λ e. eq-eqb (vertex_of observations benchmarks name) (vertex_of observations benchmarks point) (ap (vertex_of observations benchmarks) e)) (λ e. same_name observations benchmarks name point among k at free (eqb-true (vertex_of observations benchmarks name) (vertex_of observations benchmarks point) e)) refl
  where
    clash : {P : Type 0} {b : Bool} → b ≡ true → b ≡ false → P
    clash present absent = absurd (grind arith)

    by : (b c : Bool) → (b ≡ true → name ≡ point) → eqb (vertex_of observations benchmarks name) (vertex_of observations benchmarks point) ≡ c → (name ≡ point → eqb (vertex_of observations benchmarks name) (vertex_of observations benchmarks point) ≡ true) → (eqb (vertex_of observations benchmarks name) (vertex_of observations benchmarks point) ≡ true → name ≡ point) → bytes_eq name point ≡ b → b ≡ c
    by true true is e there back f = refl
    by false false is e there back f = refl
    by true false is e there back f = clash (there (is refl)) e
    by false true is e there back f = clash (ap (λ n. bytes_eq n point) (back e) ∙ bytes_eq_same point) f

same_pick : (b c : Bool) (flow rest rest' : ℤ) → b ≡ c → rest ≡ rest' → (if b then flow else pos 0) +ℤ rest ≡ (if c then flow else pos 0) +ℤ rest'
same_pick b c flow rest rest' e h = ap (λ (t : Bool). (if t then flow else pos 0) +ℤ rest) e ∙ ap (λ z. (if c then flow else pos 0) +ℤ z) h

-- all: the observations that number the vertices; the lists are any part of them
arriving_same : (all : List Observed) (benchmarks : BenchmarkRows) (point : List ℕ) (observations : List Observed) (flows : List ℤ) → AllByRecursion (λ o. Matches all benchmarks point o.target) observations → arriving_at observations flows point ≡ arriving (map (link_of all benchmarks) observations) flows (vertex_of all benchmarks point)
arriving_same all benchmarks point [] flows h = refl
arriving_same all benchmarks point (o ∷ observations) [] h = refl
arriving_same all benchmarks point (o ∷ observations) (flow ∷ flows) h =
    let rest = arriving_same all benchmarks point observations flows h.1 in
    let v = vertex_of all benchmarks point in
    let a = total_by-cons (λ (pair : Observed × ℤ). if bytes_eq pair.0.target point then pair.1 else pos 0) (o, flow) (zip observations flows) in
    let b = total_by-cons (λ (pair : Link × ℤ). if eqb pair.0.head v then pair.1 else pos 0) (link_of all benchmarks o, flow) (zip (map (link_of all benchmarks) observations) flows) in
    a ∙ same_pick (bytes_eq o.target point) (eqb (vertex_of all benchmarks o.target) v) flow (arriving_at observations flows point) (arriving (map (link_of all benchmarks) observations) flows v) h.0 rest ∙ sym b

leaving_same : (all : List Observed) (benchmarks : BenchmarkRows) (point : List ℕ) (observations : List Observed) (flows : List ℤ) → AllByRecursion (λ o. Matches all benchmarks point o.station) observations → leaving_at observations flows point ≡ leaving (map (link_of all benchmarks) observations) flows (vertex_of all benchmarks point)
leaving_same all benchmarks point [] flows h = refl
leaving_same all benchmarks point (o ∷ observations) [] h = refl
leaving_same all benchmarks point (o ∷ observations) (flow ∷ flows) h =
    let rest = leaving_same all benchmarks point observations flows h.1 in
    let v = vertex_of all benchmarks point in
    let a = total_by-cons (λ (pair : Observed × ℤ). if bytes_eq pair.0.station point then pair.1 else pos 0) (o, flow) (zip observations flows) in
    let b = total_by-cons (λ (pair : Link × ℤ). if eqb pair.0.tail v then pair.1 else pos 0) (link_of all benchmarks o, flow) (zip (map (link_of all benchmarks) observations) flows) in
    a ∙ same_pick (bytes_eq o.station point) (eqb (vertex_of all benchmarks o.station) v) flow (leaving_at observations flows point) (leaving (map (link_of all benchmarks) observations) flows v) h.0 rest ∙ sym b

bounded_same : (weights : WeightRows) (observations : List Observed) (flows : List ℤ) → AllZip (λ weight flow. unsigned_abs flow ≤ weight) (map (λ o. weight_of weights o.station o.target) observations) flows → AllZip (λ o flow. unsigned_abs flow ≤ weight_of weights o.station o.target) observations flows
bounded_same weights [] [] h = h
bounded_same weights [] (flow ∷ flows) h = h
bounded_same weights (o ∷ observations) [] h = h
bounded_same weights (o ∷ observations) (flow ∷ flows) h = (h.0, bounded_same weights observations flows h.1)

pub flow_circulates : (observations : List Observed) (benchmarks : BenchmarkRows) (weights : WeightRows) (flows : List ℤ) → IsFlow (map (link_of observations benchmarks) observations) (map (λ o. weight_of weights o.station o.target) observations) flows → Circulation observations benchmarks weights flows
flow_circulates observations benchmarks weights flows flow = record {
  bounded = bounded_same weights observations flows flow.bounded;
  balanced = λ k d within free.
      let names = points observations benchmarks in
      let point = slice_index_or names k d in
      let at = slice_get-get_or names k d within in
      let match = matches observations benchmarks point k at free in
      let a = arriving_same observations benchmarks point observations flows (weaker (EndsAmong names) (λ o. Matches observations benchmarks point o.target) (λ o h. match o.target h.1) observations (ends_are_points observations benchmarks)) in
      let b = leaving_same observations benchmarks point observations flows (weaker (EndsAmong names) (λ o. Matches observations benchmarks point o.station) (λ o h. match o.station h.0) observations (ends_are_points observations benchmarks)) in
      a ∙ flow.balanced (vertex_of observations benchmarks point) ∙ sym b;
}

-- a name's height by heights of vertices is the benchmark's part and its vertex's
pub point_height_parts : (observations : List Observed) (benchmarks : BenchmarkRows) (heights : ℕ → ℤ) (name : List ℕ) → point_height observations benchmarks heights name ≡ base benchmarks name +ℤ (heights (vertex_of observations benchmarks name) -ℤ heights 0)
point_height_parts observations benchmarks heights name = by (height_of benchmarks name) refl
  where
    by : (found : Option ℤ) → height_of benchmarks name ≡ found → unwrap_or found (heights (vertex_of observations benchmarks name) -ℤ heights 0) ≡ unwrap_or found (pos 0) +ℤ (heights (vertex_of observations benchmarks name) -ℤ heights 0)
    by None e = omega (arith, ints)
    by (Some height) e =
        let level = ap heights (fixed_vertex observations benchmarks name height e) in
        omega (arith, ints)

residual_same : (observations : List Observed) (benchmarks : BenchmarkRows) (heights : ℕ → ℤ) (o : Observed) → link_residual heights (link_of observations benchmarks o) (link_difference benchmarks o) ≡ residual o (point_height observations benchmarks heights)
residual_same observations benchmarks heights o =
    let station = point_height_parts observations benchmarks heights o.station in
    let target = point_height_parts observations benchmarks heights o.target in
    omega (arith, ints)

pub shows_same : (all : List Observed) (benchmarks : BenchmarkRows) (weights : WeightRows) (heights : ℕ → ℤ) (observations : List Observed) (flows : List ℤ) → AllZip (λ weight flow. unsigned_abs flow ≤ weight) (map (λ o. weight_of weights o.station o.target) observations) flows → ShowsLinks (map (λ o. weight_of weights o.station o.target) observations) flows (residuals (map (link_of all benchmarks) observations) (map (link_difference benchmarks) observations) heights) → Shows observations weights flows (point_height all benchmarks heights)
shows_same all benchmarks weights heights [] [] h s = tt
shows_same all benchmarks weights heights [] (flow ∷ flows) h s = absurd h
shows_same all benchmarks weights heights (o ∷ observations) [] h s = absurd h
shows_same all benchmarks weights heights (o ∷ observations) (flow ∷ flows) h s = (subst (λ r. flow *ℤ r ≡ pos (weight_of weights o.station o.target * unsigned_abs r)) (residual_same all benchmarks heights o) s.0, shows_same all benchmarks weights heights observations flows h.1 s.1)
