use Rattle.std.proofs.Common.{◌≡◌, ℕ, List, take}
use Rattle.th_notes.specs.Seen.{was_observed}
use Rattle.th_notes.specs.Inside.Sets.{has_pair}
use Rattle.th_notes.proofs.tables.pairs_of.Given as goal

abbrev pub invariant-loop-o : goal.invariant-loop-o
invariant-loop-o l = (ends : List ℕ × List ℕ) → has_pair l.pairs ends ≡ was_observed (take l.o-index l.observations) ends
