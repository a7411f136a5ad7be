use Rattle.std.proofs.Common.{◌<◌, ℕ}
use Rattle.th_numbers.specs.Inside.Parts.{IsOther}
use Rattle.th_numbers.proofs.ties.has_other.Given as goal

abbrev pub invariant-loop-k : goal.invariant-loop-k
invariant-loop-k l = (k : ℕ) → k < l.k → ¬ IsOther l.network l.parts l.place k
