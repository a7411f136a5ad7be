-- The last question that settling asks its search.
use Rattle.std.specs.Prelude.{◌≡◌, ℕ, ◌<◌, ◌≤◌, ℤ, pos, ◌+ℤ◌, ◌-ℤ◌, Bool, List, Option, Some, All, Contains, if◌then◌else◌, length, slice_index_or, unsigned_abs}
use Rattle.th_network.specs.Networks.{Survey, arcs_of, vertices_of, weights_of}
use Rattle.th_network.specs.declared.links.Link.{Link}
use Rattle.th_search.specs.Asked.{Asked}
use Rattle.th_search.specs.declared.arcs.Arc.{Arc}

-- the residual arc of a link, along it or against it, at a cost that levels of the vertices reduce
abbrev pub residual_arc : (ℕ → ℤ) → Link → Bool → Arc
residual_arc levels link along =
    let rest = link.diff -ℤ (levels link.head -ℤ levels link.tail) in
    record { tail = if along then link.tail else link.head; head = if along then link.head else link.tail; cost = if along then (pos 0 -ℤ rest) else rest }

-- the link at a place, counted from 0; a link from vertex 0 to itself if there is none
abbrev pub link_at_place : List Link → ℕ → Link
link_at_place links place = slice_index_or links place (record { tail = 0; head = 0; diff = pos 0 })

-- a unit more can flow on the link at a place, along it or against it
abbrev pub CanFlow : List ℕ → List ℤ → ℕ → Bool → Type 0
CanFlow weights flows place along = unsigned_abs (slice_index_or flows place (pos 0) +ℤ (if along then pos 1 else (pos 0 -ℤ pos 1))) ≤ slice_index_or weights place 0

-- the arc is a residual arc of the flows
pub record IsResidual (links : List Link) (weights : List ℕ) (flows : List ℤ) (levels : ℕ → ℤ) (arc : Arc) : Type 0 where
  pub place : ℕ
  pub along : Bool
  pub within : place < length links
  pub room : CanFlow weights flows place along
  pub is : arc ≡ residual_arc levels (link_at_place links place) along

-- The search was last asked of all residual arcs of these flows, and of no others, at costs that some levels of the vertices reduce. It answered potentials.
pub record IsAskedLast (survey : Survey) (flows : List ℤ) (asked : Option Asked) : Type 0 where
  pub levels : ℕ → ℤ
  pub arcs : List Arc
  pub potentials : List ℤ
  pub last : asked ≡ Some (record { vertices = vertices_of survey; arcs = arcs; potentials = Some potentials })
  pub residual : All (IsResidual (arcs_of survey) (weights_of survey) flows levels) arcs
  pub all : (place : ℕ) (along : Bool) → place < length (arcs_of survey) → CanFlow (weights_of survey) flows place along → Contains arcs (residual_arc levels (link_at_place (arcs_of survey) place) along)
