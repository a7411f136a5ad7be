use Rattle.std.specs.Prelude.{◌≡◌, ℕ, ◌+◌, ◌*◌, ◌≤◌, ℤ, pos, ◌+ℤ◌, ◌≤ℤ◌, Bool, List, Option, Some, All, Result, Ok, Err, OnOk, if◌then◌else◌, length, sum}
use Rattle.th_network.specs.Links.{largest_link_difference}
use Rattle.th_network.specs.declared.links.Link.{Link}
use Rattle.th_search.specs.Answers.{refusals_in}
use Rattle.th_search.specs.Asked.{Asked}
use Rattle.th_search.specs.Limits.{max_arcs}
use Rattle.th_search.specs.Potentials.{IsFeasible, value_at}
use Rattle.th_search.specs.Walks.{IsArc}
use Rattle.th_search.specs.declared.arcs.Arc.{Arc}
use Rattle.th_circulation.specs.Inside.Bounds.{HaveSmallRises, height_bound, raised_bound}
use Rattle.th_circulation.specs.Inside.Flows.{IsFlow, ShowsLinks, gain, residuals}
use Rattle.th_search.specs.Distances.{AreWithin}
use Rattle.th_circulation.specs.Inside.Listings.{AreResidual, Fits, HasAllBefore}
use Rattle.th_circulation.specs.Inside.Phases.{differences_in}
use Rattle.th_circulation.specs.declared.graphs.LinkGraph.{LinkGraph}
use Rattle.th_circulation.specs.declared.slots.Slot.{Slot}
use Rattle.th_circulation.specs.declared.workspaces.Workspace.{Workspace}

-- the state between two phases: a flow, and heights within the bound of raised ones
pub record IsRested (graph : LinkGraph) (work : Workspace) : Type 0 where
  pub differences : length work.state.differences.items ≡ length graph.links.now
  pub heights : AreWithin graph.vertices raised_bound work.state.heights.items
  pub flow : IsFlow graph.links.now graph.weights.now work.state.flows.items
  pub fits : Fits graph work.listing

-- the state within a phase: a flow, and differences and heights for which reduced costs can be listed
pub record IsReady (graph : LinkGraph) (work : Workspace) : Type 0 where
  pub differences : AreWithin (length graph.links.now) largest_link_difference work.state.differences.items
  pub heights : AreWithin graph.vertices height_bound work.state.heights.items
  pub flow : IsFlow graph.links.now graph.weights.now work.state.flows.items
  pub fits : Fits graph work.listing

-- what a phase does in this many steps: each of them gains at least 1 for the phase's differences
pub record GoesOn (graph : LinkGraph) (old new : Workspace) (steps : ℕ) : Type 0 where
  pub differences : new.state.differences.items ≡ old.state.differences.items
  pub flow : IsFlow graph.links.now graph.weights.now new.state.flows.items
  pub fits : Fits graph new.listing
  pub gained : (gain old.state.flows.items old.state.differences.items +ℤ pos steps) ≤ℤ gain new.state.flows.items old.state.differences.items

-- a search was asked of these arcs last, and answered these potentials
abbrev pub WasAsked : ℕ → List Arc → List ℤ → Option Asked → Type 0
WasAsked vertices arcs potentials asked = asked ≡ Some (record { vertices = vertices; arcs = arcs; potentials = Some potentials })

-- a search was asked of these arcs last, which are all residual arcs of the flows, and answered potentials
pub record IsAskedFor (graph : LinkGraph) (diffs flows : List ℤ) (arcs : List Arc) (asked : Option Asked) : Type 0 where
  pub heights : List ℤ
  pub slots : List Slot
  pub potentials : List ℤ
  pub residual : AreResidual graph.links.now graph.weights.now diffs (value_at heights) flows arcs slots
  pub all : HasAllBefore graph.weights.now flows slots (length graph.links.now)
  pub many : length arcs ≤ max_arcs
  pub arcs_are : All (IsArc graph.vertices) arcs
  pub feasible : IsFeasible arcs potentials
  pub last : WasAsked graph.vertices arcs potentials asked

-- for these differences the flows show the heights, which are within the bounds of raised ones, and a search was asked of the flows last
pub record AreShownFor (graph : LinkGraph) (diffs : List ℤ) (work : Workspace) (asked : Option Asked) : Type 0 where
  pub heights : AreWithin graph.vertices raised_bound work.state.heights.items
  pub rises : HaveSmallRises graph.vertices work.state.heights.items
  pub shown : ShowsLinks graph.weights.now work.state.flows.items (residuals graph.links.now diffs (value_at work.state.heights.items))
  pub answered : IsAskedFor graph diffs work.state.flows.items work.listing.arcs.items asked

-- the last phase is done: a flow shows the heights for the links' own differences
pub record IsDone (graph : LinkGraph) (work : Workspace) (asked : Option Asked) : Type 0 where
  pub flow : IsFlow graph.links.now graph.weights.now work.state.flows.items
  pub shown : AreShownFor graph (differences_in 0 graph.links.now) work asked

-- no flow gains more than these flows by over twice the sum of the weights
abbrev pub IsNear : List Link → List ℕ → List ℤ → List ℤ → Type 0
IsNear links weights diffs flows = (others : List ℤ) → IsFlow links weights others → gain others diffs ≤ℤ (gain flows diffs +ℤ pos (2 * sum weights))

-- how many calls named no cycle: none if the answer is true, which says that a call named one, else 1
abbrev pub others_in : {E : Type 0} → Result Bool E → ℕ
others_in (Ok named) = if named then 0 else 1
others_in (Err refused) = 1

-- The counts of a search and of the steps, from one state to a later one, if a part of settling has this result. Each cycle
-- that the search named is one step, and there are `others` more calls, or at most that many after an error.
pub record Counts {X A E : Type 0} (calls refusals cycles : X → ℕ) (others : ℕ) (result : Result A E) (search later : X) (steps more : ℕ) : Type 0 where
  pub more_steps : steps ≤ more
  pub one_step_each : cycles later + steps ≡ cycles search + more
  pub all_calls : OnOk result (calls later + steps ≡ calls search + more + others)
  pub few_calls : calls later + steps ≤ calls search + more + others
  pub asked : calls search + more ≤ calls later + steps
  pub refused : refusals later ≡ refusals search + refusals_in result
