use Rattle.std.specs.Prelude.{◌≡◌, ℕ, ◌+◌, ◌-◌, ◌<◌, ◌≤◌, ℤ, List, length}
use Rattle.th_cuts.specs.declared.edges.Edge.{Edge}
use Rattle.th_cuts.specs.declared.trees.WayStep.{WayStep}
use Rattle.th_cuts.specs.Drains.{room_at}
use Rattle.th_cuts.specs.Inside.Guides.{level_at}
use Rattle.th_cuts.specs.Inside.Trees.{AreSteps, step_at}

-- steps from the source, each one level on from the one before it
pub record IsPath (edges : List Edge) (flows : List ℤ) (source : ℕ) (levels : List ℕ) (steps : List WayStep) : Type 0 where
  pub are_steps : AreSteps edges flows source steps
  pub further : (k : ℕ) → k < length steps → level_at levels (step_at steps k).vertex ≡ level_at levels source + k

-- the last of the steps leads to where more may end
abbrev pub LeadsToRoom : List ℕ → List WayStep → Type 0
LeadsToRoom left steps = (1 ≤ length steps) × (1 ≤ room_at left (step_at steps (length steps - 1)).vertex)
