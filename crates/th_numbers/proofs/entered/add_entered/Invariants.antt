use Rattle.std.proofs.Common.{◌≡◌, ◌++◌, drop}
use Rattle.th_numbers.specs.Lists.{entered}
use Rattle.th_numbers.proofs.entered.add_entered.Given as goal

abbrev pub invariant-loop-entry : goal.invariant-loop-entry
invariant-loop-entry l =
    l.candidates.items ++ entered l.runs.observations.now l.kind (drop l.entry-index l.entries) ≡ l.fn.candidates.items ++ entered l.runs.observations.now l.kind l.entries
