-- What the definitions on edges, flows and rooms mean of a flow of a drain.
use Rattle.std.specs.Prelude.{ℕ, Bool, List}
use Rattle.th_cuts.specs.Inside.Flows.{AreFullOut, CanCarry, IsClosedSide, IsFullOut}
use Rattle.th_cuts.specs.Inside.Paths.{IsPath}
use Rattle.th_cuts.specs.Inside.Trees.{AreSteps}
use Rattle.th_cuts.specs.declared.flows.Flow.{Flow}
use Rattle.th_cuts.specs.declared.trees.WayStep.{WayStep}
use Rattle.th_cuts.specs.declared.edges.Way.{Way}

-- a way can carry this much more
abbrev pub CanCarryMore : Flow → ℕ → Way → Type 0
CanCarryMore flow amount way = CanCarry flow.drain.graph.now.edges.items flow.flows.items amount way

-- the steps lead on from the source, along ways that can carry more
abbrev pub AreStepsOf : Flow → List WayStep → Type 0
AreStepsOf flow steps = AreSteps flow.drain.graph.now.edges.items flow.flows.items flow.drain.source steps

-- the steps lead on from the source, each to the next level
abbrev pub IsPathOf : Flow → List ℕ → List WayStep → Type 0
IsPathOf flow levels steps = IsPath flow.drain.graph.now.edges.items flow.flows.items flow.drain.source levels steps

-- a way is full if it leads out of the inside
abbrev pub IsFull : Flow → (ℕ → Bool) → Way → Type 0
IsFull flow inside way = IsFullOut flow.drain.graph.now.edges.items flow.flows.items inside way

-- every way that leads out of the inside is full
abbrev pub AreFull : Flow → (ℕ → Bool) → Type 0
AreFull flow inside = AreFullOut flow.drain.graph.now.edges.items flow.flows.items inside

-- a side of the vertices that contains the source, and that nothing more can leave
abbrev pub IsClosedBy : Flow → List Bool → Type 0
IsClosedBy flow side = IsClosedSide flow.drain.graph.now.vertices flow.drain.graph.now.edges.items flow.drain.source flow.left.items flow.flows.items side
