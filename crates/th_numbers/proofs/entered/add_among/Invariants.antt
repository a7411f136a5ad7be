use Rattle.std.proofs.Common.{◌≡◌, ◌++◌, drop}
use Rattle.std.specs.List.{flat_map}
use Rattle.th_numbers.specs.Lists.{forgotten, forgotten_at}
use Rattle.th_numbers.proofs.entered.add_among.Given as goal

abbrev pub invariant-loop-entry : goal.invariant-loop-entry
invariant-loop-entry l =
    l.candidates.items ++ flat_map (forgotten_at l.runs.observations.now l.kind l.o) (drop l.entry-index l.entries) ≡ l.fn.candidates.items ++ forgotten l.runs.observations.now l.entries l.kind l.o
