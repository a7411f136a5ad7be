-- What moves and what is blamed, counted one after another.
use Rattle.std.proofs.Common.{◌≡◌, ℕ, ◌≤◌, ◌<◌, pos, Bool, false, List, [], Option, Some, None, get_or, if◌then◌else◌, length, inl, inr, ap, sym, ◌∙◌, arith}
use Rattle.std.specs.List.{zip}
use Rattle.std.proofs.lemmas.List.{get_or-map, get_or_default, get_or_past, length-map}
use Rattle.std.proofs.lemmas.Bool.{cases_lt}
use Rattle.std.proofs.lemmas.Slice.Zip.{get_or-zip, length-zip}
use Rattle.th_observations.specs.Observed.{Observed}
use Rattle.th_network.specs.Networks.{Survey}
use Rattle.th_cuts.specs.CutWeights.{crosses as edge_crosses}
use Rattle.th_cuts.specs.Graphs.{edge_at}
use Rattle.th_cuts.specs.declared.edges.Edge.{Edge}
use Rattle.th_reliability.specs.Blames.{IsHeaviest, blamed_weight, blamed_weights}
use Rattle.th_reliability.specs.Cuts.{crosses}
use Rattle.th_reliability.specs.Edges.{edge_of}
use Rattle.th_reliability.specs.Inside.Blamed.{IsBest, IsBlamed}
use Rattle.th_reliability.specs.Inside.Sides.{blamed_edge, names_beyond}
use Rattle.th_reliability.specs.Inside.Targets.{AreEdges}
use Rattle.th_reliability.specs.declared.blames.Blamed.{Blamed}
use Rattle.th_reliability.proofs.SideLemmas.{beyond_crosses}
use Rattle.th_reliability.proofs.TargetLemmas.{edge_is}

none : Observed
none = record { station = []; target = []; difference = pos 0; book = 0; line = 0 }

-- ---- one weight for each observation
pub blamed_long : (survey : Survey) (mistaken : List Bool) (inside : List ℕ → Bool) → length mistaken ≡ length survey.observations → length (blamed_weights survey mistaken inside) ≡ length survey.observations
blamed_long survey mistaken inside long =
    let each = length-map (zip survey.observations mistaken) (blamed_weight survey inside) in
    let both = length-zip survey.observations mistaken in
    omega arith

-- ---- that of the edge of an observation
pub blamed_here : (survey : Survey) (edges : List Edge) (is : AreEdges survey edges) (mistaken : List Bool) (side : ℕ → Bool) (i : ℕ) → length mistaken ≡ length survey.observations → i < length survey.observations → blamed_edge (get_or mistaken i false) side (edge_at edges i) ≡ get_or (blamed_weights survey mistaken (names_beyond survey side)) i 0
blamed_here survey edges is mistaken side i long within =
    let o : Observed = get_or survey.observations i none in
    let m : Bool = get_or mistaken i false in
    let inside = names_beyond survey side in
    let same : edge_at edges i ≡ edge_of survey.observations survey.benchmarks survey.weights o = edge_is survey edges is i o within (get_or_default survey.observations i none o within) in
    let crossing : edge_crosses side (edge_at edges i) ≡ crosses inside o = ap (edge_crosses side) same ∙ sym (beyond_crosses survey side o) in
    let pair : get_or (zip survey.observations mistaken) i (none, false) ≡ (o, m) = get_or-zip survey.observations mistaken i (none, false) within (omega arith) in
    let both = length-zip survey.observations mistaken in
    ap (λ (c : Bool). if m then 0 else (if c then (edge_at edges i).weight else 0)) crossing
    ∙ ap (λ (w : ℕ). if m then 0 else (if crosses inside o then w else 0)) (ap (λ (e : Edge). e.weight) same)
    ∙ sym (get_or-map (blamed_weight survey inside) (zip survey.observations mistaken) i (none, false) 0 (omega arith) ∙ ap (blamed_weight survey inside) pair)

-- ---- the heaviest of all
pub heaviest_of_all : (weights : List ℕ) (seen : ℕ) (blamed : Blamed) → length weights ≤ seen → IsBlamed weights seen blamed → IsHeaviest weights blamed.number
heaviest_of_all weights seen blamed past is = by blamed.number blamed.most is.best is.most
  where
    by : (number : Option ℕ) (most : ℕ) → IsBest weights number most seen → ((other : ℕ) → other < seen → get_or weights other 0 ≤ most) → IsHeaviest weights number
    by None most best all = λ place. elim (cases_lt place seen) [
      | inl less ↦ let at_most = all place less in omega arith
      | inr more ↦ get_or_past weights place 0 (omega arith)
    ]
    by (Some number) most (place, numbered, within, here, some, first) all = (
      place,
      numbered,
      record {
        some = omega arith;
        most = λ other. elim (cases_lt other seen) [
          | inl less ↦ let at_most = all other less in omega arith
          | inr more ↦ let nothing = get_or_past weights other 0 (omega arith) in omega arith
        ];
        first = λ other before. let less = first other before in omega arith;
      },
    )
