use Rattle.std.proofs.Common.{◌≡◌, ◌<◌, ◌+◌, ℕ, get_or, true}
use Rattle.th_entries.specs.declared.entries.Entry.{Entry}
use Rattle.th_numbers.specs.Inside.Kinds.{precedes}
use Rattle.th_numbers.proofs.kinds.follow_each_other.Given as goal

abbrev pub invariant-loop-k : goal.invariant-loop-k
invariant-loop-k l = (j : ℕ) (d : Entry) → j + 1 < l.k → precedes (get_or l.entries j d) (get_or l.entries (j + 1) d) ≡ true
