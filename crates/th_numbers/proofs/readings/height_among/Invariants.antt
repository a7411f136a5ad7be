use Rattle.std.proofs.Common.{◌≡◌, drop}
use Rattle.std.specs.Prelude.{find}
use Rattle.th_numbers.specs.Lists.{is_used}
use Rattle.th_numbers.proofs.readings.height_among.Given as goal

abbrev pub invariant-loop-entry : goal.invariant-loop-entry
invariant-loop-entry l = find (is_used l.kind l.o) (drop l.entry-index l.entries) ≡ find (is_used l.kind l.o) l.entries
