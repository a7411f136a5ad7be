-- What a flow and a search show of what sets drain.
use Rattle.std.proofs.Common.{◌≡◌, ℕ, ◌<◌, ◌≤◌, ℤ, Bool, true, false, List, Option, All, Contains, get_or, length, map, ap, subst, sym, ◌∙◌, arith}
use Rattle.th_cuts.specs.declared.edges.Edge.{Edge}
use Rattle.th_cuts.specs.declared.trees.WayStep.{WayStep}
use Rattle.th_cuts.specs.Drains.{IsDrained, IsLeastDrain, drain, on_side, room_at}
use Rattle.th_cuts.specs.declared.drains.Drained.TheVariants.{More}
use Rattle.th_cuts.specs.Inside.Flows.{AreFullOut, IsClosedSide, IsFlow}
use Rattle.th_cuts.specs.Inside.Trees.{IsTree, is_placed, reached, step_at}
use Rattle.th_cuts.proofs.FlowLemmas.{closed_of_drain, value_full, value_most}
use Rattle.th_cuts.proofs.TreeLemmas.{closed_side, on_side_is, reached_inside}

-- a side that nothing more can leave drains least
pub least_drain_is : (vertices : ℕ) (edges : List Edge) (source value : ℕ) (rooms left : List ℕ) (flows : List ℤ) (side : List Bool) → IsFlow edges source rooms left value flows → IsClosedSide vertices edges source left flows side → IsLeastDrain edges rooms source value side
least_drain_is vertices edges source value rooms left flows side flow is = record {
  holds = is.holds;
  drains = value_full edges source value rooms left flows (on_side side) flow is.closed is.holds;
  least = λ inside in_it. value_most edges source value rooms left flows inside flow in_it;
}

-- no set that drains least contains a vertex that is reached where more may end
pub none_with_room : (vertices : ℕ) (edges : List Edge) (source value : ℕ) (rooms left : List ℕ) (flows : List ℤ) (steps : List WayStep) (places : List (Option ℕ)) (last : ℕ) (inside : ℕ → Bool) → IsTree vertices edges flows source steps places → IsFlow edges source rooms left value flows → last < length steps → 1 ≤ room_at left (step_at steps last).vertex → inside source ≡ true → drain edges rooms inside ≡ value → ⊥
none_with_room vertices edges source value rooms left flows steps places last inside tree flow within some in_it drains =
    let vertex = (step_at steps last).vertex in
    let on = reached_inside vertices edges flows source value rooms left steps places inside tree flow in_it drains vertex (ap is_placed (tree.found last within)) in
    let used = (closed_of_drain edges source value rooms left flows inside flow in_it drains).used vertex on in
    absurd (omega arith)

-- ---- what a flow shows that is as much as is to flow
module _ (vertices : ℕ) (edges : List Edge) (source value most : ℕ) (rooms left : List ℕ) (flows : List ℤ) (steps : List WayStep) (places : List (Option ℕ)) (wanted : List ℕ) (tree : IsTree vertices edges flows source steps places) (flow : IsFlow edges source rooms left value flows) (all : value ≡ most) where
  no_less : (inside : ℕ → Bool) → inside source ≡ true → most ≤ drain edges rooms inside
  no_less inside in_it = let most_of = value_most edges source value rooms left flows inside flow in_it in omega arith

  -- all that is wanted is reached
  pub more_reached : All (λ vertex. reached places vertex ≡ true) wanted → IsDrained edges rooms source most wanted More
  more_reached on = (no_less, λ inside in_it drains k d h. reached_inside vertices edges flows source value rooms left steps places inside tree flow in_it (drains ∙ sym all) (get_or wanted k d) (on k d h))

  -- more could flow
  pub more_room : (last : ℕ) → last < length steps → 1 ≤ room_at left (step_at steps last).vertex → IsDrained edges rooms source most wanted More
  more_room last within some = (no_less, λ inside in_it drains k d h. absurd (none_with_room vertices edges source value rooms left flows steps places last inside tree flow within some in_it (drains ∙ sym all)))

  -- a side that lacks a wanted vertex
  pub just_side : AreFullOut edges flows (reached places) → ((vertex : ℕ) → reached places vertex ≡ true → room_at left vertex ≡ 0) → (vertex : ℕ) × Contains wanted vertex × (reached places vertex ≡ false) → IsLeastDrain edges rooms source most (map is_placed places) × ((vertex : ℕ) × Contains wanted vertex × (on_side (map is_placed places) vertex ≡ false))
  just_side full used off =
      let side = closed_side vertices edges flows source left steps places tree full used in
      (subst (λ (v : ℕ). IsLeastDrain edges rooms source v (map is_placed places)) all (least_drain_is vertices edges source value rooms left flows (map is_placed places) flow side), (off.0, off.1, sym (on_side_is places off.0) ∙ off.2))
