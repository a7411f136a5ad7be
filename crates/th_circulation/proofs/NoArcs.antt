-- Where there are no arcs, no cycle is named.
use Rattle.std.proofs.Common.{◌≡◌, ℕ, List, [], ◌∷◌, Ok, refl, arith}
use Rattle.std.specs.declared.alloc.AllocError.{AllocError}
use Rattle.th_search.specs.Answers.{IsAnswer, cycles_in}
use Rattle.th_search.specs.Walks.{IsNegativeCycle}
use Rattle.th_search.specs.declared.searches.Found.{Found}
use Rattle.th_search.specs.declared.searches.Found.TheVariants.{Potentials, Cycle}

no_cycle : (walk : List ℕ) → ¬ IsNegativeCycle [] walk
no_cycle [] is = (let some = is.some in absurd (omega arith))
no_cycle (number ∷ walk) is = (let within = is.closed.1.0 in absurd (omega arith))

pub none_named : (n : ℕ) (found : Found) → IsAnswer n [] found → cycles_in {E = AllocError} (Ok found) ≡ 0
none_named n (Potentials potentials) is = refl
none_named n (Cycle cycle) is = absurd (no_cycle cycle.items is)
