-- What a vertex alone weighs, and what flow to the vertices near another one shows of the cuts between the two.
use Rattle.std.proofs.Common.{◌≡◌, ◌≢◌, ℕ, ◌+◌, ◌<◌, ◌≤◌, inl, inr, Bool, true, false, not, List, [], ◌∷◌, eqb, ltb, if◌then◌else◌, length, sum_by, take, refl, ap, sym, ◌∙◌, subst, arith}
use Rattle.std.specs.Prelude.{slice_set}
use Rattle.std.proofs.lemmas.Bool.{cases_Bool, eq-eqb, eqb-false, eqb-true, ltb-false, ltb-true, ne_eqb}
use Rattle.std.proofs.lemmas.List.{get_or-set_other, get_or-set_same, length-set}
use Rattle.std.proofs.lemmas.List.Elements.{All-head, All-tail}
use Rattle.std.proofs.lemmas.List.Sums.{sum_by-cons, sum_by_more, sum_by_more_le}
use Rattle.th_cuts.specs.declared.edges.Edge.{Edge}
use Rattle.th_cuts.specs.CutWeights.{crosses, cut_weight, separates, weight_in}
use Rattle.th_cuts.specs.Drains.{IsLeastDrain, drain, on_side, room_at}
use Rattle.th_cuts.specs.Inside.CutTrees.{AreLone, AreNear, IsSame, raised, with_edge}
use Rattle.th_cuts.specs.Graphs.{AreAmong, edge_at}
use Rattle.th_cuts.proofs.CutTreeLemmas.{apart_itself, least_both, other_side, separated, through}
use Rattle.th_cuts.proofs.RoomLemmas.{room_in_least, room_in_none}

pub same_through : (edges : List Edge) (weight u v w : ℕ) → IsSame edges weight u w → IsSame edges weight v w → IsSame edges weight u v
same_through edges weight u v w one other = λ inside h. elim (through (inside u) (inside v) (inside w) h) [
  | inl first ↦ one inside first
  | inr second ↦ other inside second
]

-- ---- a set that holds a source and not a vertex: where it weighs little, there is no room near the vertex in it
pub near_least : (vertices : ℕ) (edges : List Edge) (source sink most value : ℕ) (rooms : List ℕ) → ((inside : ℕ → Bool) → inside source ≡ true → value ≤ drain edges rooms inside) → AreNear vertices edges most sink rooms → value ≤ most → (inside : ℕ → Bool) → separates inside source sink ≡ true → value ≤ cut_weight inside edges
near_least vertices edges source sink most value rooms drains near few = least_both edges source sink value by
  where
    by : (inside : ℕ → Bool) → inside source ≡ true → inside sink ≡ false → value ≤ cut_weight inside edges
    by inside in_it out = elim (cases_Bool (ltb (cut_weight inside edges) most)) [
      | inl light ↦
          let none = room_in_none rooms inside (λ vertex on. empty vertex on (ltb-true (cut_weight inside edges) most light)) in
          let all = drains inside in_it in
          omega arith
      | inr heavy ↦ let less = ltb-false (cut_weight inside edges) most heavy in omega arith
    ]
      where
        empty : (vertex : ℕ) → inside vertex ≡ true → cut_weight inside edges < most → room_at rooms vertex ≡ 0
        empty vertex on light = elim (cases_Bool (ltb 0 (room_at rooms vertex))) [
          | inl some ↦
              let room = ltb-true 0 (room_at rooms vertex) some in
              let heavy = near.near vertex (omega arith) inside (separated inside vertex sink on out) in
              absurd (omega arith)
          | inr none ↦ let zero = ltb-false 0 (room_at rooms vertex) none in omega arith
        ]

-- a side that drains less holds no such room, and so not the vertex
pub near_out : (vertices : ℕ) (edges : List Edge) (source sink most value : ℕ) (rooms : List ℕ) (side : List Bool) → IsLeastDrain edges rooms source value side → AreNear vertices edges most sink rooms → value < most → on_side side sink ≡ false
near_out vertices edges source sink most value rooms side is near less = elim (cases_Bool (on_side side sink)) [
  | inl on ↦
      let room = room_in_least rooms (on_side side) sink on in
      let all = is.drains in
      let here = near.here in
      absurd (omega arith)
  | inr off ↦ off
]

pub near_weighs : (vertices : ℕ) (edges : List Edge) (source sink most value : ℕ) (rooms : List ℕ) (side : List Bool) → IsLeastDrain edges rooms source value side → AreNear vertices edges most sink rooms → value < most → cut_weight (on_side side) edges ≡ value
near_weighs vertices edges source sink most value rooms side is near less =
    let out = near_out vertices edges source sink most value rooms side is near less in
    let most_of = near_least vertices edges source sink most value rooms is.least near (omega arith) (on_side side) (separated (on_side side) source sink is.holds out) in
    let all = is.drains in
    omega arith

-- ---- sides that agree on the vertices have the same cut
pub cut_same : (vertices : ℕ) (edges : List Edge) (one other : ℕ → Bool) → AreAmong vertices edges → ((vertex : ℕ) → vertex < vertices → one vertex ≡ other vertex) → cut_weight one edges ≡ cut_weight other edges
cut_same vertices [] one other ends same = refl
cut_same vertices (edge ∷ edges) one other ends same =
    let here = All-head (λ (e : Edge). (e.tail < vertices) × (e.head < vertices)) edge edges ends in
    let rest = cut_same vertices edges one other (All-tail (λ (e : Edge). (e.tail < vertices) × (e.head < vertices)) edge edges ends) same in
    let tail = same edge.tail here.0 in
    let head = same edge.head here.1 in
    let crossing : crosses one edge ≡ crosses other edge = ap (λ (a : Bool). if a then (if one edge.head then false else true) else one edge.head) tail ∙ ap (λ (b : Bool). if other edge.tail then (if b then false else true) else b) head in
    let weight = ap (λ (c : Bool). if c then edge.weight else 0) crossing in
    let left = sum_by-cons (λ (e : Edge). if crosses one e then e.weight else 0) edge edges in
    let right = sum_by-cons (λ (e : Edge). if crosses other e then e.weight else 0) edge edges in
    omega arith

-- ---- what a vertex alone weighs, with one more edge
abbrev pub alone : ℕ → ℕ → Bool
alone vertex other = eqb other vertex

lone_weight : (a b : Bool) (w : ℕ) (s t : Bool) → s ≡ a → t ≡ b → (if (if s then (if t then false else true) else t) then w else 0) ≡ (if (if a then (if b then false else true) else b) then w else 0)
lone_weight a b w s t e f = ap (λ (x : Bool). if (if x then (if t then false else true) else t) then w else 0) e ∙ ap (λ (y : Bool). if (if a then (if y then false else true) else y) then w else 0) f

pub lone_more : (edges : List Edge) (k : ℕ) (lone : List ℕ) → k < length edges → (edge_at edges k).tail < length lone → (edge_at edges k).head < length lone → (edge_at edges k).tail ≢ (edge_at edges k).head → ((vertex : ℕ) → vertex < length lone → room_at lone vertex ≡ cut_weight (alone vertex) (take k edges)) → (vertex : ℕ) → vertex < length lone → room_at (raised (raised lone (edge_at edges k).tail (edge_at edges k).weight) (edge_at edges k).head (edge_at edges k).weight) vertex ≡ cut_weight (alone vertex) (take (k + 1) edges)
lone_more edges k lone among tail_in head_in apart are vertex within = by (eqb tail vertex) (eqb head vertex) refl refl
  where
    tail : ℕ
    tail = (edge_at edges k).tail

    head : ℕ
    head = (edge_at edges k).head

    weight : ℕ
    weight = (edge_at edges k).weight

    first : List ℕ
    first = raised lone tail weight

    both : cut_weight (alone vertex) (take (k + 1) edges) ≡ cut_weight (alone vertex) (take k edges) + weight_in (alone vertex) (edge_at edges k)
    both = sum_by_more (weight_in (alone vertex)) edges k (edge_at [] 0) among

    by : (a b : Bool) → eqb tail vertex ≡ a → eqb head vertex ≡ b → room_at (raised first head weight) vertex ≡ cut_weight (alone vertex) (take (k + 1) edges)
    by true true e f = absurd (apart (eqb-true tail vertex e ∙ sym (eqb-true head vertex f)))
    by true false e f =
        let same = eqb-true tail vertex e in
        let other = get_or-set_other first head vertex (room_at first head + weight) 0 (λ (q : vertex ≡ head). eqb-false head vertex f (sym q)) in
        let set = ap (room_at first) (sym same) ∙ get_or-set_same lone tail (room_at lone tail + weight) 0 tail_in in
        let here = ap (room_at lone) same in
        let before = are vertex within in
        let more = lone_weight true false weight (eqb tail vertex) (eqb head vertex) e f in
        let all = both in
        omega arith
    by false true e f =
        let same = eqb-true head vertex f in
        let long = length-set lone tail (room_at lone tail + weight) in
        let set = ap (room_at (raised first head weight)) (sym same) ∙ get_or-set_same first head (room_at first head + weight) 0 (omega arith) in
        let other = ap (room_at first) same ∙ get_or-set_other lone tail vertex (room_at lone tail + weight) 0 (λ (q : vertex ≡ tail). eqb-false tail vertex e (sym q)) in
        let before = are vertex within in
        let more = lone_weight false true weight (eqb tail vertex) (eqb head vertex) e f in
        let all = both in
        omega arith
    by false false e f =
        let one = get_or-set_other first head vertex (room_at first head + weight) 0 (λ (q : vertex ≡ head). eqb-false head vertex f (sym q)) in
        let other = get_or-set_other lone tail vertex (room_at lone tail + weight) 0 (λ (q : vertex ≡ tail). eqb-false tail vertex e (sym q)) in
        let before = are vertex within in
        let more = lone_weight false false weight (eqb tail vertex) (eqb head vertex) e f in
        let all = both in
        omega arith

pub lone_step : (edges : List Edge) (k : ℕ) (lone : List ℕ) → k < length edges → (edge_at edges k).tail < length lone → (edge_at edges k).head < length lone → ((vertex : ℕ) → vertex < length lone → room_at lone vertex ≡ cut_weight (alone vertex) (take k edges)) → (vertex : ℕ) → vertex < length (with_edge lone (edge_at edges k)) → room_at (with_edge lone (edge_at edges k)) vertex ≡ cut_weight (alone vertex) (take (k + 1) edges)
lone_step edges k lone among tail_in head_in are vertex = by (eqb (edge_at edges k).tail (edge_at edges k).head) refl
  where
    edge : Edge
    edge = edge_at edges k

    by : (b : Bool) → eqb edge.tail edge.head ≡ b → vertex < length (if b then lone else raised (raised lone edge.tail edge.weight) edge.head edge.weight) → room_at (if b then lone else raised (raised lone edge.tail edge.weight) edge.head edge.weight) vertex ≡ cut_weight (alone vertex) (take (k + 1) edges)
    by true e within =
        let loop = eqb-true edge.tail edge.head e in
        let both = sum_by_more (weight_in (alone vertex)) edges k (edge_at [] 0) among in
        let none : weight_in (alone vertex) edge ≡ 0 = ap (λ (b : Bool). if b then edge.weight else 0) (ap (separates (alone vertex) edge.tail) (sym loop) ∙ apart_itself (alone vertex edge.tail)) in
        let before = are vertex within in
        omega arith
    by false e within =
        let first = length-set lone edge.tail (room_at lone edge.tail + edge.weight) in
        let second = length-set (raised lone edge.tail edge.weight) edge.head (room_at (raised lone edge.tail edge.weight) edge.head + edge.weight) in
        lone_more edges k lone among tail_in head_in (eqb-false edge.tail edge.head e) are vertex (omega arith)

-- a cut weighs at most what all edges weigh
pub weight_most : (inside : ℕ → Bool) (edges : List Edge) → cut_weight inside edges ≤ sum_by (λ edge. edge.weight) edges
weight_most inside [] = omega arith
weight_most inside (edge ∷ edges) =
    let rest = weight_most inside edges in
    let one = part (crosses inside edge) edge.weight in
    let more = sum_by-cons (λ (e : Edge). if crosses inside e then e.weight else 0) edge edges in
    let all = sum_by-cons (λ (e : Edge). e.weight) edge edges in
    omega arith
  where
    part : (b : Bool) (w : ℕ) → (if b then w else 0) ≤ w
    part true w = omega arith
    part false w = omega arith

-- and with one more edge it is at most what all edges weigh
pub lone_fits : (edges : List Edge) (k vertex : ℕ) → k < length edges → cut_weight (alone vertex) (take k edges) + (edge_at edges k).weight ≤ sum_by (λ edge. edge.weight) edges
lone_fits edges k vertex among =
    let less = weight_most (alone vertex) (take k edges) in
    let all = sum_by_more_le (λ (e : Edge). e.weight) edges k (edge_at [] 0) among in
    omega arith

-- ---- room at those of the first vertices that no light cut separates from a vertex
pub record AreNearTo (vertices : ℕ) (edges : List Edge) (most vertex count : ℕ) (rooms : List ℕ) : Type 0 where
  pub each : length rooms ≡ vertices
  pub here : vertex < count → room_at rooms vertex ≡ most
  pub near : (k : ℕ) → 1 ≤ room_at rooms k → IsSame edges most k vertex

pub near_more : (vertices : ℕ) (edges : List Edge) (most vertex other : ℕ) (rooms : List ℕ) → AreNearTo vertices edges most vertex other rooms → other < vertices → IsSame edges most other vertex → AreNearTo vertices edges most vertex (other + 1) (slice_set rooms other most)
near_more vertices edges most vertex other rooms are within same =
    let long = length-set rooms other most in
    let each = are.each in
    record {
      each = omega arith;
      here = λ h. elim (cases_Bool (eqb vertex other)) [
        | inl is ↦ ap (room_at (slice_set rooms other most)) (eqb-true vertex other is) ∙ get_or-set_same rooms other most 0 (omega arith)
        | inr not ↦ let apart = eqb-false vertex other not in get_or-set_other rooms other vertex most 0 apart ∙ are.here (omega arith)
      ];
      near = λ k some. elim (cases_Bool (eqb k other)) [
        | inl is ↦ subst (λ (v : ℕ). IsSame edges most v vertex) (sym (eqb-true k other is)) same
        | inr not ↦ let kept = get_or-set_other rooms other k most 0 (eqb-false k other not) in are.near k (omega arith)
      ];
    }

pub near_skip : (vertices : ℕ) (edges : List Edge) (most vertex other : ℕ) (rooms : List ℕ) → AreNearTo vertices edges most vertex other rooms → other ≢ vertex → AreNearTo vertices edges most vertex (other + 1) rooms
near_skip vertices edges most vertex other rooms are apart = record { each = are.each; here = λ h. are.here (omega arith); near = are.near }

-- ---- the sides of a vertex alone and of all but it
module _ (vertices : ℕ) (edges : List Edge) (lone : List ℕ) (ends : AreAmong vertices edges) (are : AreLone vertices edges lone) (vertex : ℕ) (within : vertex < vertices) (side : List Bool) where
  pub alone_weighs : ((v : ℕ) → v < vertices → on_side side v ≡ eqb v vertex) → cut_weight (on_side side) edges ≡ room_at lone vertex
  alone_weighs same = cut_same vertices edges (on_side side) (alone vertex) ends same ∙ sym (are.weigh vertex within)

  pub all_but_weighs : ((v : ℕ) → v < vertices → on_side side v ≡ not (eqb v vertex)) → cut_weight (on_side side) edges ≡ room_at lone vertex
  all_but_weighs same = cut_same vertices edges (on_side side) (λ v. not (alone vertex v)) ends same ∙ other_side (alone vertex) edges ∙ sym (are.weigh vertex within)

  pub alone_apart : (other : ℕ) → other < vertices → other ≢ vertex → ((v : ℕ) → v < vertices → on_side side v ≡ eqb v vertex) → separates (on_side side) vertex other ≡ true
  alone_apart other inner apart same = separated (on_side side) vertex other (same vertex within ∙ eq-eqb vertex vertex refl) (same other inner ∙ ne_eqb other vertex apart)

  pub all_but_apart : (other : ℕ) → other < vertices → other ≢ vertex → ((v : ℕ) → v < vertices → on_side side v ≡ not (eqb v vertex)) → separates (on_side side) other vertex ≡ true
  all_but_apart other inner apart same = separated (on_side side) other vertex (same other inner ∙ ap not (ne_eqb other vertex apart)) (same vertex within ∙ ap not (eq-eqb vertex vertex refl))

pub length_with_edge : (lone : List ℕ) (edge : Edge) → length (with_edge lone edge) ≡ length lone
length_with_edge lone edge = by (eqb edge.tail edge.head)
  where
    by : (b : Bool) → length (if b then lone else raised (raised lone edge.tail edge.weight) edge.head edge.weight) ≡ length lone
    by true = refl
    by false =
        let first = length-set lone edge.tail (room_at lone edge.tail + edge.weight) in
        let second = length-set (raised lone edge.tail edge.weight) edge.head (room_at (raised lone edge.tail edge.weight) edge.head + edge.weight) in
        omega arith
