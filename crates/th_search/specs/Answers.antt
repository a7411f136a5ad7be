use Rattle.std.specs.Prelude.{ℕ, List, Result, Ok, Err}
use Rattle.th_search.specs.Walks.{IsNegativeCycle}
use Rattle.th_search.specs.Potentials.{ArePotentials}
use Rattle.th_search.specs.declared.arcs.Arc.{Arc}
use Rattle.th_search.specs.declared.searches.Found.{Found}
use Rattle.th_search.specs.declared.searches.Found.TheVariants.{Potentials, Cycle}

-- a right answer: potentials, or a negative cycle
abbrev pub IsAnswer : ℕ → List Arc → Found → Type 0
IsAnswer n arcs (Potentials potentials) = ArePotentials n arcs potentials.items
IsAnswer n arcs (Cycle cycle) = IsNegativeCycle arcs cycle.items

-- 1 for an error, 0 for an answer
abbrev pub refusals_in : {A E : Type 0} → Result A E → ℕ
refusals_in (Ok answer) = 0
refusals_in (Err refused) = 1

-- 1 for an answer that is a cycle, 0 for potentials or an error
abbrev pub cycles_in : {E : Type 0} → Result Found E → ℕ
cycles_in (Ok (Potentials potentials)) = 0
cycles_in (Ok (Cycle cycle)) = 1
cycles_in (Err refused) = 0
