use Rattle.std.proofs.Common.{◌≡◌, drop}
use Rattle.th_notes.specs.Repeats.{are_same}
use Rattle.th_notes.proofs.repeats.are_same.Given as goal

abbrev pub invariant-loop-k : goal.invariant-loop-k
invariant-loop-k l = are_same (drop l.k l.observations) (drop l.k l.others) ≡ are_same l.observations l.others
