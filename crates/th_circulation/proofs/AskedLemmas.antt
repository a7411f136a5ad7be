-- What a search was asked last.
use Rattle.std.proofs.Common.{◌≡◌, ℕ, ◌<◌, ℤ, pos, ◌-ℤ◌, Bool, List, Option, Some, Ok, All, Contains, if◌then◌else◌, length, map, refl, ap, sym, ◌∙◌, subst}
use Rattle.std.proofs.Math.ListN.{get_or-map}
use Rattle.std.proofs.lemmas.List.Elements.{All-map}
use Rattle.std.specs.declared.alloc.AllocError.{AllocError}
use Rattle.std.specs.Prelude.{slice_index_or}
use Rattle.th_network.specs.Networks.{Survey, arcs_of, vertices_of, weights_of}
use Rattle.th_network.specs.declared.links.Link.{Link}
use Rattle.th_network.proofs.Gets.{Contains-in_map}
use Rattle.th_search.specs.Answers.{IsAnswer, cycles_in}
use Rattle.th_search.specs.Asked.{Asked, potentials_in}
use Rattle.th_search.specs.Potentials.{IsFeasible, value_at}
use Rattle.th_search.specs.Walks.{IsNegativeCycle}
use Rattle.th_search.specs.declared.arcs.Arc.{Arc}
use Rattle.th_search.specs.declared.searches.Found.{Found}
use Rattle.th_search.specs.declared.searches.Found.TheVariants.{Potentials, Cycle}
use Rattle.th_circulation.specs.Asked.{CanFlow, IsAskedLast, IsResidual, link_at_place, residual_arc}
use Rattle.th_circulation.specs.declared.graphs.LinkGraph.{LinkGraph}
use Rattle.th_circulation.specs.declared.slots.Slot.{Slot}
use Rattle.th_circulation.specs.Inside.Listings.{AreResidual, arc_of}
use Rattle.th_circulation.specs.Inside.Phases.{differences_in}
use Rattle.th_circulation.specs.Inside.Workspaces.{IsAskedFor, WasAsked}
use Rattle.th_circulation.proofs.PhaseStarts.{first_differences}

-- no network has potentials and a negative cycle
abbrev Excludes : Type 0
Excludes = (arcs : List Arc) (values : List ℤ) (walk : List ℕ) → IsFeasible arcs values → ¬ IsNegativeCycle arcs walk

-- where arcs have potentials, an answer names no cycle
pub none_named_again : (n : ℕ) (arcs : List Arc) (values : List ℤ) (found : Found) → Excludes → IsFeasible arcs values → IsAnswer n arcs found → cycles_in {E = AllocError} (Ok found) ≡ 0
none_named_again n arcs values (Potentials potentials) exclude feasible is = refl
none_named_again n arcs values (Cycle cycle) exclude feasible is = absurd (exclude arcs values cycle.items feasible is)

-- it is potentials
pub answered_again : (n : ℕ) (arcs : List Arc) (values : List ℤ) (found : Found) (asked : Option Asked) → Excludes → IsFeasible arcs values → IsAnswer n arcs found → asked ≡ Some (record { vertices = n; arcs = arcs; potentials = potentials_in {E = AllocError} (Ok found) }) → (others : List ℤ) × IsFeasible arcs others × WasAsked n arcs others asked
answered_again n arcs values (Potentials potentials) asked exclude feasible is e = (potentials.items, is.feasible, e)
answered_again n arcs values (Cycle cycle) asked exclude feasible is e = absurd (exclude arcs values cycle.items feasible is)

-- in the last phase, the arc of a slot is the residual arc of its link
arc_of_last : (links : List Link) (levels : ℕ → ℤ) (slot : Slot) → arc_of links (differences_in 0 links) levels slot ≡ residual_arc levels (link_at_place links slot.place) slot.is_forward
arc_of_last links levels slot =
    let link = link_at_place links slot.place in
    let fall = levels link.head -ℤ levels link.tail in
    let own : slice_index_or (differences_in 0 links) slot.place (pos 0) ≡ link.diff = ap (λ (ds : List ℤ). slice_index_or ds slot.place (pos 0)) (first_differences links) ∙ get_or-map (λ (l : Link). l.diff) links slot.place (record { tail = 0; head = 0; diff = pos 0 }) in
    ap (λ (d : ℤ). let arc : Arc = record { tail = if slot.is_forward then link.tail else link.head; head = if slot.is_forward then link.head else link.tail; cost = if slot.is_forward then (pos 0 -ℤ (d -ℤ fall)) else (d -ℤ fall) } in arc) own

each_residual : (links : List Link) (weights : List ℕ) (flows : List ℤ) (levels : ℕ → ℤ) (arcs : List Arc) (slots : List Slot) → AreResidual links weights (differences_in 0 links) levels flows arcs slots → All (IsResidual links weights flows levels) arcs
each_residual links weights flows levels arcs slots residual =
    let f = arc_of links (differences_in 0 links) levels in
    subst (All (IsResidual links weights flows levels)) (sym residual.is) (All-map (IsResidual links weights flows levels) f slots (λ k d within.
    let slot = slice_index_or slots k d in
    record {
      place = slot.place;
      along = slot.is_forward;
      within = residual.within k d within;
      room = residual.room k d within;
      is = arc_of_last links levels slot;
    }))

all_contained : (links : List Link) (levels : ℕ → ℤ) (arcs : List Arc) (slots : List Slot) (slot : Slot) → arcs ≡ map (arc_of links (differences_in 0 links) levels) slots → Contains slots slot → Contains arcs (residual_arc levels (link_at_place links slot.place) slot.is_forward)
all_contained links levels arcs slots slot is contains =
    subst (λ (listed : List Arc). Contains listed (residual_arc levels (link_at_place links slot.place) slot.is_forward)) (sym is) (
    subst (Contains (map (arc_of links (differences_in 0 links) levels) slots)) (arc_of_last links levels slot) (Contains-in_map (arc_of links (differences_in 0 links) levels) slots slot contains))

-- the same of a graph that is a survey's
of_survey : (survey : Survey) (vertices : ℕ) (links : List Link) (weights : List ℕ) (flows : List ℤ) (asked : Option Asked) (heights : List ℤ) (arcs : List Arc) (slots : List Slot) (potentials : List ℤ) → vertices ≡ vertices_of survey → links ≡ arcs_of survey → weights ≡ weights_of survey → AreResidual links weights (differences_in 0 links) (value_at heights) flows arcs slots → ((place : ℕ) (along : Bool) → place < length links → CanFlow weights flows place along → Contains arcs (residual_arc (value_at heights) (link_at_place links place) along)) → WasAsked vertices arcs potentials asked → IsAskedLast survey flows asked
of_survey survey vertices links weights flows asked heights arcs slots potentials v l w residual all last =
    let levels = value_at heights in
    let each = each_residual links weights flows levels arcs slots residual in
    let Each : List Link → List ℕ → Type 0 = λ ls ws. All (IsResidual ls ws flows levels) arcs in
    let HasAll : List Link → List ℕ → Type 0 = λ ls ws. (place : ℕ) (along : Bool) → place < length ls → CanFlow ws flows place along → Contains arcs (residual_arc levels (link_at_place ls place) along) in
    record {
      levels = levels;
      arcs = arcs;
      potentials = potentials;
      last = subst (λ (n : ℕ). WasAsked n arcs potentials asked) v last;
      residual = subst (λ (ls : List Link). Each ls (weights_of survey)) l (subst (λ (ws : List ℕ). Each links ws) w each);
      all = subst (λ (ls : List Link). HasAll ls (weights_of survey)) l (subst (λ (ws : List ℕ). HasAll links ws) w all);
    }

pub is_asked_last : (survey : Survey) (graph : LinkGraph) (flows : List ℤ) (arcs : List Arc) (asked : Option Asked) → graph.vertices ≡ vertices_of survey → graph.links.now ≡ arcs_of survey → graph.weights.now ≡ weights_of survey → IsAskedFor graph (differences_in 0 graph.links.now) flows arcs asked → IsAskedLast survey flows asked
is_asked_last survey graph flows arcs asked v l w is =
    let links = graph.links.now in
    of_survey survey graph.vertices links graph.weights.now flows asked is.heights arcs is.slots is.potentials v l w is.residual
    (λ place along within room. all_contained links (value_at is.heights) arcs is.slots (record { place = place; is_forward = along }) is.residual.is (is.all (record { place = place; is_forward = along }) within room))
    is.last
