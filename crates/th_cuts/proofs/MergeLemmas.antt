-- Edges that are merged weigh in each cut what they weighed one by one.
use Rattle.std.proofs.Common.{ℕ, ◌+◌, ◌<◌, ◌≤◌, List, [], ◌∷◌, ◌++◌, All, length, sum_by, take, refl, ap, sym, subst, arith}
use Rattle.std.proofs.lemmas.List.{get_or_append_left, get_or_push, length-append, take_more}
use Rattle.std.proofs.lemmas.List.Sums.{sum_by-take-le, sum_by_push}
use Rattle.th_cuts.specs.declared.edges.Edge.{Edge}
use Rattle.th_cuts.specs.Graphs.{edge_at}
use Rattle.th_cuts.specs.Inside.Merges.{IsAdded, IsMerged}
use Rattle.th_cuts.specs.CutWeights.{weight_in}

-- ---- one more of the edges is merged
All-front : (P : Edge → Type 0) (edges : List Edge) (edge : Edge) → All P (edges ++ edge ∷ []) → All P edges
All-front P edges edge all k d h =
    let long = length-append edges (edge ∷ []) in
    subst P (get_or_append_left edges (edge ∷ []) d k h) (all k d (omega arith))

All-last : (P : Edge → Type 0) (edges : List Edge) (edge : Edge) → All P (edges ++ edge ∷ []) → P edge
All-last P edges edge all =
    let long = length-append edges (edge ∷ []) in
    subst P (get_or_push edges edge edge (length edges) refl) (all (length edges) edge (omega arith))

merged_push : (others edges more : List Edge) (edge : Edge) → IsMerged others edges → IsAdded edge edges more → IsMerged (others ++ edge ∷ []) more
merged_push others edges more edge merged added = record {
  cuts = λ inside.
      let one = added.cuts inside in
      let before = merged.cuts inside in
      let both = sum_by_push (weight_in inside) others edge in
      omega arith;
  lighter =
      let one = added.lighter in
      let before = merged.lighter in
      let both = sum_by_push (λ (e : Edge). e.weight) others edge in
      omega arith;
  among = λ vertices all.
      let P : Edge → Type 0 = λ e. (e.tail < vertices) × (e.head < vertices) in
      let last = All-last P others edge all in
      added.among vertices last.0 last.1 (merged.among vertices (All-front P others edge all));
}

pub merged_more : (others edges more : List Edge) (k : ℕ) → k < length others → IsMerged (take k others) edges → IsAdded (edge_at others k) edges more → IsMerged (take (k + 1) others) more
merged_more others edges more k within merged added =
    subst (λ (front : List Edge). IsMerged front more) (sym (take_more others k (edge_at [] 0) within)) (merged_push (take k others) edges more (edge_at others k) merged added)

-- the weight that is left for one more edge
pub weight_left : (others edges : List Edge) (k : ℕ) → k < length others → IsMerged (take k others) edges → sum_by (λ (e : Edge). e.weight) edges + (edge_at others k).weight ≤ sum_by (λ (e : Edge). e.weight) others
weight_left others edges k within merged =
    let before = merged.lighter in
    let both = sum_by_push (λ (e : Edge). e.weight) (take k others) (edge_at others k) in
    let more = ap (sum_by (λ (e : Edge). e.weight)) (take_more others k (edge_at [] 0) within) in
    let all = sum_by-take-le (λ (e : Edge). e.weight) others (k + 1) in
    omega arith
