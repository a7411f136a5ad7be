-- A step that is added to a tree, and an amount that a tree's ways carry.
use Rattle.std.proofs.Common.{◌≡◌, ℕ, zero, suc, ◌+◌, ◌<◌, ◌≤◌, ℤ, Bool, true, false, List, [], ◌∷◌, ◌++◌, Option, Some, None, length, map, eqb, refl, ap, sym, subst, ◌∙◌, inl, inr, take, arith}
use Rattle.std.specs.Prelude.{slice_set}
use Rattle.std.proofs.lemmas.Int.{ints}
use Rattle.std.proofs.Math.Seq.{take-append_seam}
use Rattle.std.proofs.lemmas.Bool.{cases_Bool, eqb-false, eqb-true, false≢true}
use borrow.Author.Count.{below_more}
use Rattle.std.proofs.lemmas.List.{get_or_append_left, get_or_push, get_or-set_other, get_or-set_same, length-set, length-append, length-map}
use Rattle.std.proofs.lemmas.List.Sums.{sum_by-cons, sum_by-set}
use Rattle.th_cuts.specs.declared.edges.Edge.{Edge}
use Rattle.th_cuts.specs.declared.trees.WayStep.{WayStep}
use Rattle.th_cuts.specs.Drains.{drain, on_side, room_at}
use Rattle.th_cuts.specs.Inside.Flows.{AreFullOut, CanCarry, IsClosedSide, IsFlow, carry, flow_at}
use Rattle.th_cuts.specs.Graphs.{edge_at, finish_of}
use Rattle.th_cuts.specs.Inside.Trees.{AreApart, AreSteps, IsBack, IsSent, IsStep, IsTree, at, count_left, is_placed, left, place_at, reached, step_at}
use Rattle.th_cuts.proofs.FlowLemmas.{carry_bounded, closed_of_drain, full_same, net_carry, not_out, room_for_less, room_kept}

-- a vertex with a place is none without
placed_apart : (places : List (Option ℕ)) (u v k : ℕ) → place_at places u ≡ Some k → place_at places v ≡ None → u ≡ v → ⊥
placed_apart places u v k some none same = let e = sym some ∙ ap (place_at places) same ∙ none in cc

count_set : (places : List (Option ℕ)) (v k : ℕ) → v < length places → place_at places v ≡ None → count_left (slice_set places v (Some k)) + 1 ≡ count_left places
count_set places v k within none =
    let set = sum_by-set left places v (Some k) None within in
    let one = ap left none in
    omega arith

-- the steps with one more
abbrev with_new : List WayStep → WayStep → ℕ → WayStep
with_new steps new k = step_at (steps ++ new ∷ []) k

old : (steps : List WayStep) (new : WayStep) (k : ℕ) → k < length steps → with_new steps new k ≡ step_at steps k
old steps new k h = get_or_append_left steps (new ∷ []) (step_at [] 0) k h

last : (steps : List WayStep) (new : WayStep) → with_new steps new (length steps) ≡ new
last steps new = get_or_push steps new (step_at [] 0) (length steps) refl

placed_more : (vertices : ℕ) (edges : List Edge) (flows : List ℤ) (source : ℕ) (steps : List WayStep) (places : List (Option ℕ)) (new : WayStep) → IsTree vertices edges flows source steps places → new.vertex < vertices → (vertex k : ℕ) → place_at (slice_set places new.vertex (Some (length steps))) vertex ≡ Some k → (k < length (steps ++ new ∷ [])) × ((with_new steps new k).vertex ≡ vertex)
placed_more vertices edges flows source steps places new tree within vertex k is = by (eqb vertex new.vertex) refl
  where
    by : (b : Bool) → eqb vertex new.vertex ≡ b → (k < length (steps ++ new ∷ [])) × ((with_new steps new k).vertex ≡ vertex)
    by false e =
        let before = tree.placed vertex k (sym (get_or-set_other places new.vertex vertex (Some (length steps)) None (eqb-false vertex new.vertex e)) ∙ is) in
        let long = length-append steps (new ∷ []) in
        (omega arith, ap (λ (s : WayStep). s.vertex) (old steps new k before.0) ∙ before.1)
    by true e =
        let same = eqb-true vertex new.vertex e in
        let sized = tree.sized in
        let set = get_or-set_same places new.vertex (Some (length steps)) None (omega arith) in
        let there = sym set ∙ ap (place_at (slice_set places new.vertex (Some (length steps)))) (sym same) ∙ is in
        let k_is : length steps ≡ k = cc in
        let long = length-append steps (new ∷ []) in
        (omega arith, ap (λ (i : ℕ). (with_new steps new i).vertex) (sym k_is) ∙ ap (λ (s : WayStep). s.vertex) (last steps new) ∙ sym same)

pub steps_more : (edges : List Edge) (flows : List ℤ) (source : ℕ) (steps : List WayStep) (new : WayStep) → AreSteps edges flows source steps → 1 ≤ new.limit → new.parent < length steps → IsStep edges flows (step_at steps new.parent) new → AreSteps edges flows source (steps ++ new ∷ [])
steps_more edges flows source steps new are limit after step =
    let root = are.root in
    let long = length-append steps (new ∷ []) in
    let now = with_new steps new in
    record {
      root = omega arith;
      root_vertex = ap (λ (s : WayStep). s.vertex) (old steps new 0 (omega arith)) ∙ are.root_vertex;
      some = λ k h. below_more (λ k. 1 ≤ (now k).limit) (length steps)
          (λ k h. subst (λ (s : WayStep). 1 ≤ s.limit) (sym (old steps new k h)) (are.some k h))
          (subst (λ (s : WayStep). 1 ≤ s.limit) (sym (last steps new)) limit)
          k (omega arith);
      before = λ k h. below_more (λ k. 1 ≤ k → (now k).parent < k) (length steps)
          (λ k h some. subst (λ (s : WayStep). s.parent < k) (sym (old steps new k h)) (are.before k h some))
          (λ some. subst (λ (s : WayStep). s.parent < length steps) (sym (last steps new)) after)
          k (omega arith);
      grown = λ k h. below_more (λ k. 1 ≤ k → IsStep edges flows (now (now k).parent) (now k)) (length steps)
          (λ k h some. let before = are.before k h some in subst (λ (s : WayStep). IsStep edges flows (now s.parent) s) (sym (old steps new k h)) (subst (λ (p : WayStep). IsStep edges flows p (step_at steps k)) (sym (old steps new (step_at steps k).parent (omega arith))) (are.grown k h some)))
          (λ some. subst (λ (s : WayStep). IsStep edges flows (now s.parent) s) (sym (last steps new)) (subst (λ (p : WayStep). IsStep edges flows p new) (sym (old steps new new.parent after)) step))
          k (omega arith);
    }

pub tree_more : (vertices : ℕ) (edges : List Edge) (flows : List ℤ) (source : ℕ) (steps : List WayStep) (places : List (Option ℕ)) (new : WayStep) → IsTree vertices edges flows source steps places → 1 ≤ new.limit → new.parent < length steps → IsStep edges flows (step_at steps new.parent) new → new.vertex < vertices → place_at places new.vertex ≡ None → IsTree vertices edges flows source (steps ++ new ∷ []) (slice_set places new.vertex (Some (length steps)))
tree_more vertices edges flows source steps places new tree limit after step within none =
    let sized = tree.sized in
    let counted = tree.counted in
    let set_long = length-set places new.vertex (Some (length steps)) in
    let long = length-append steps (new ∷ []) in
    let count = count_set places new.vertex (length steps) (omega arith) none in
    let now = with_new steps new in
    record {
      sized = omega arith;
      counted = omega arith;
      are_steps = steps_more edges flows source steps new tree.are_steps limit after step;
      found = λ k h. below_more (λ k. place_at (slice_set places new.vertex (Some (length steps))) (now k).vertex ≡ Some k) (length steps)
          (λ k h. let is = tree.found k h in subst (λ (s : WayStep). place_at (slice_set places new.vertex (Some (length steps))) s.vertex ≡ Some k) (sym (old steps new k h)) (get_or-set_other places new.vertex (step_at steps k).vertex (Some (length steps)) None (placed_apart places (step_at steps k).vertex new.vertex k is none) ∙ is))
          (subst (λ (s : WayStep). place_at (slice_set places new.vertex (Some (length steps))) s.vertex ≡ Some (length steps)) (sym (last steps new)) (get_or-set_same places new.vertex (Some (length steps)) None (omega arith)))
          k (omega arith);
      placed = placed_more vertices edges flows source steps places new tree within;
    }

-- ---- the source alone
count_none : (places : List (Option ℕ)) → ((v : ℕ) → place_at places v ≡ None) → count_left places ≡ length places
count_none [] none = refl
count_none (place ∷ places) none =
    let more = sum_by-cons left place places in
    let one = ap left (none 0) in
    let rest = count_none places (λ v. none (suc v)) in
    omega arith

pub steps_start : (edges : List Edge) (flows : List ℤ) (source : ℕ) (step : WayStep) → step.vertex ≡ source → 1 ≤ step.limit → AreSteps edges flows source (step ∷ [])
steps_start edges flows source step is limit = record {
  root = omega arith;
  root_vertex = is;
  some = λ k h. let first : 0 ≡ k = omega arith in subst (λ k. 1 ≤ (step_at (step ∷ []) k).limit) first limit;
  before = λ k h some. absurd (omega arith);
  grown = λ k h some. absurd (omega arith);
}

pub tree_start : (vertices : ℕ) (edges : List Edge) (flows : List ℤ) (source : ℕ) (step : WayStep) (places : List (Option ℕ)) → length places ≡ vertices → ((v : ℕ) → place_at places v ≡ None) → source < vertices → step.vertex ≡ source → 1 ≤ step.limit → IsTree vertices edges flows source (step ∷ []) (slice_set places source (Some 0))
tree_start vertices edges flows source step places long none within is limit =
    let set_long = length-set places source (Some 0) in
    let count = count_set places source 0 (omega arith) (none source) in
    let all = count_none places none in
    let here = get_or-set_same places source (Some 0) None (omega arith) in
    record {
      sized = omega arith;
      counted = omega arith;
      are_steps = steps_start edges flows source step is limit;
      found = λ k h. let first : 0 ≡ k = omega arith in subst (λ k. place_at (slice_set places source (Some 0)) (step_at (step ∷ []) k).vertex ≡ Some k) first (ap (place_at (slice_set places source (Some 0))) is ∙ here);
      placed = λ vertex k there. elim (cases_Bool (eqb vertex source)) [
        | inl same ↦
            let e = eqb-true vertex source same in
            let some = sym here ∙ ap (place_at (slice_set places source (Some 0))) (sym e) ∙ there in
            let first : 0 ≡ k = cc in
            (omega arith, subst (λ k. (step_at (step ∷ []) k).vertex ≡ vertex) first (is ∙ sym e))
        | inr other ↦
            let some = sym (none vertex) ∙ sym (get_or-set_other places source vertex (Some 0) None (eqb-false vertex source other)) ∙ there in
            cc
      ];
    }

-- ---- an amount that a tree's ways carry, way by way back from the sink
-- steps that lead to different vertices do not take the same way
apart_ways : (edges : List Edge) (flows : List ℤ) (p q a b : WayStep) → IsStep edges flows p a → IsStep edges flows q b → (a.vertex ≡ b.vertex → ⊥) → b.way.edge ≡ a.way.edge → a.way.is_forward ≡ b.way.is_forward → ⊥
apart_ways edges flows p q a b one two apart edge forward =
    apart (sym one.finish ∙ ap (λ (i : ℕ). finish_of (record { edge = i; is_forward = a.way.is_forward }) (edge_at edges i)) (sym edge) ∙ ap (λ (t : Bool). finish_of (record { edge = b.way.edge; is_forward = t }) (edge_at edges b.way.edge)) forward ∙ two.finish)

pub back_step : (edges : List Edge) (first : List ℤ) (source end amount : ℕ) (steps : List WayStep) (flows : List ℤ) (here : ℕ) → AreSteps edges first source steps → AreApart steps → IsBack edges first end amount steps flows here → 1 ≤ here → CanCarry edges flows amount (step_at steps here).way × IsBack edges first end amount steps (carry amount flows (step_at steps here).way) (step_at steps here).parent
back_step edges first source end amount steps flows here are each_apart back some =
    let step = step_at steps here in
    let parent = step_at steps step.parent in
    let is = are.grown here back.within some in
    let before = are.before here back.within some in
    let enough = back.enough in
    let less = is.less in
    let within = back.within in
    let among = is.among in
    let sized = back.sent.bounded.sized in
    let room : CanCarry edges flows amount step.way = room_for_less step.way.is_forward (edge_at edges step.way.edge).weight amount step.limit (flow_at flows step.way.edge) (back.sent.bounded.bounded step.way.edge) enough (back.rooms here (omega arith) some) in (
      room,
      record {
        within = omega arith;
        enough = omega arith;
        sent = record {
          bounded = carry_bounded edges flows amount step.way back.sent.bounded room;
          moved = λ inside.
              let sent = net_carry inside edges flows amount step.way among sized in
              let moved = back.sent.moved inside in
              let start = ap (λ (v : ℕ). at amount (inside v)) is.start in
              let finish = ap (λ (v : ℕ). at amount (inside v)) is.finish in
              omega (arith, ints);
        };
        rooms = λ k h more.
            let inside : k < length steps = omega arith in
            let other = are.grown k inside more in
            let apart : step.vertex ≡ (step_at steps k).vertex → ⊥ = λ same.
            let same_place = each_apart here k within inside same in
            absurd (omega arith) in
            room_kept edges flows amount (step_at steps k).limit step.way (step_at steps k).way back.sent.bounded among room (back.rooms k (omega arith) more) (apart_ways edges first parent (step_at steps (step_at steps k).parent) step (step_at steps k) is other apart);
      },
    )

-- back at the source, all has been sent
pub back_done : (edges : List Edge) (first : List ℤ) (source end amount : ℕ) (steps : List WayStep) (flows : List ℤ) → AreSteps edges first source steps → IsBack edges first end amount steps flows 0 → IsSent edges first source end amount flows
back_done edges first source end amount steps flows are back = subst (λ v. IsSent edges first v end amount flows) are.root_vertex back.sent

-- ---- the side that is reached
pub on_side_is : (places : List (Option ℕ)) (vertex : ℕ) → reached places vertex ≡ on_side (map is_placed places) vertex
on_side_is [] vertex = refl
on_side_is (place ∷ places) zero = refl
on_side_is (place ∷ places) (suc vertex) = on_side_is places vertex

-- if no way with room leads out of it, and nothing more may end there, nothing more can leave it
pub closed_side : (vertices : ℕ) (edges : List Edge) (flows : List ℤ) (source : ℕ) (room : List ℕ) (steps : List WayStep) (places : List (Option ℕ)) → IsTree vertices edges flows source steps places → AreFullOut edges flows (reached places) → ((vertex : ℕ) → reached places vertex ≡ true → room_at room vertex ≡ 0) → IsClosedSide vertices edges source room flows (map is_placed places)
closed_side vertices edges flows source room steps places tree full used =
    let root = tree.are_steps.root in
    record {
      each = length-map {B = Bool} places is_placed ∙ tree.sized;
      holds = sym (on_side_is places source) ∙ ap is_placed (ap (place_at places) (sym tree.are_steps.root_vertex) ∙ tree.found 0 (omega arith));
      closed = record {
        full = full_same edges flows (reached places) (on_side (map is_placed places)) (on_side_is places) full;
        used = λ vertex on. used vertex (on_side_is places vertex ∙ on);
      };
    }

-- where no more may end at the steps, no more may end at what is reached
pub used_of_steps : (vertices : ℕ) (edges : List Edge) (flows : List ℤ) (source : ℕ) (room : List ℕ) (steps : List WayStep) (places : List (Option ℕ)) → IsTree vertices edges flows source steps places → ((k : ℕ) → k < length steps → room_at room (step_at steps k).vertex ≡ 0) → (vertex : ℕ) → reached places vertex ≡ true → room_at room vertex ≡ 0
used_of_steps vertices edges flows source room steps places tree used vertex on = by (place_at places vertex) refl
  where
    by : (place : Option ℕ) → place_at places vertex ≡ place → room_at room vertex ≡ 0
    by None e = absurd (false≢true (sym (ap is_placed e) ∙ on))
    by (Some k) e = let there = tree.placed vertex k e in ap (room_at room) (sym there.1) ∙ used k there.0

-- ---- whatever holds the source and has no way with room out of it holds all that is reached
steps_inside : (vertices : ℕ) (edges : List Edge) (flows : List ℤ) (source : ℕ) (steps : List WayStep) (places : List (Option ℕ)) (inside : ℕ → Bool) → IsTree vertices edges flows source steps places → AreFullOut edges flows inside → inside source ≡ true → (most k : ℕ) → k < most → k < length steps → inside (step_at steps k).vertex ≡ true
steps_inside vertices edges flows source steps places inside tree full in_it zero k h within = absurd (omega arith)
steps_inside vertices edges flows source steps places inside tree full in_it (suc most) zero h within = ap inside tree.are_steps.root_vertex ∙ in_it
steps_inside vertices edges flows source steps places inside tree full in_it (suc most) (suc k) h within =
    let step = step_at steps (suc k) in
    let before = tree.are_steps.before (suc k) within (omega arith) in
    let is = tree.are_steps.grown (suc k) within (omega arith) in
    let parent = steps_inside vertices edges flows source steps places inside tree full in_it most step.parent (omega arith) (omega arith) in
    sym (ap inside is.finish) ∙ not_out edges flows inside step.limit step.way full is.among (tree.are_steps.some (suc k) within) is.room (ap inside is.start ∙ parent)

pub reached_inside : (vertices : ℕ) (edges : List Edge) (flows : List ℤ) (source value : ℕ) (rooms room : List ℕ) (steps : List WayStep) (places : List (Option ℕ)) (inside : ℕ → Bool) → IsTree vertices edges flows source steps places → IsFlow edges source rooms room value flows → inside source ≡ true → drain edges rooms inside ≡ value → (vertex : ℕ) → reached places vertex ≡ true → inside vertex ≡ true
reached_inside vertices edges flows source value rooms room steps places inside tree flow in_it drains vertex on = by (place_at places vertex) refl
  where
    full : AreFullOut edges flows inside
    full = (closed_of_drain edges source value rooms room flows inside flow in_it drains).full

    by : (place : Option ℕ) → place_at places vertex ≡ place → inside vertex ≡ true
    by None e = absurd (false≢true (sym (ap is_placed e) ∙ on))
    by (Some k) e =
        let there = tree.placed vertex k e in
        sym (ap inside there.1) ∙ steps_inside vertices edges flows source steps places inside tree full in_it (length steps) k there.0 there.0

-- ---- what was written by way of a slice
pub written : (n : ℕ) (new rest : List ℤ) → n ≡ length new → take n (new ++ rest) ≡ new
written n new rest long = ap (λ (m : ℕ). take m (new ++ rest)) long ∙ take-append_seam new rest
