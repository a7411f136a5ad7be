use Rattle.std.proofs.Common.{◌≡◌, drop}
use Rattle.std.specs.Prelude.{find}
use Rattle.th_answer.specs.Remedies.{is_over}
use Rattle.th_answer.proofs.remedies.since_on.Given as goal

abbrev pub invariant-loop-entry : goal.invariant-loop-entry
invariant-loop-entry l = find (is_over l.kind l.place) (drop l.entry-index l.entries) ≡ find (is_over l.kind l.place) l.entries
