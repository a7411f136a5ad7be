use Rattle.std.proofs.Common.{◌≡◌, ◌++◌, ℕ, List, drop}
use Rattle.th_notes.specs.Uses.{AreUsed, uses_after, uses_of}
use Rattle.th_notes.proofs.uses.UsedNames.of_sights.Given as goal

abbrev pub invariant-loop-o : goal.invariant-loop-o
invariant-loop-o l =
    (names : List (List ℕ)) × AreUsed names l.used × (names ++ uses_after l.before (drop l.o-index l.observations) ≡ uses_of l.observations)
