use Rattle.std.proofs.Common.{◌≡◌, ◌++◌, drop}
use Rattle.th_notes.specs.Repeats.{observations_in}
use Rattle.th_notes.proofs.repeats.observations_in.Given as goal

abbrev pub invariant-loop-o : goal.invariant-loop-o
invariant-loop-o l = l.own.items ++ observations_in (drop l.o-index l.observations) l.book ≡ observations_in l.observations l.book
