use Rattle.std.proofs.Common.{◌≡◌, ℕ, List, take}
use Rattle.th_notes.specs.Seen.{was_seen}
use Rattle.th_notes.specs.Inside.Sets.{has_name}
use Rattle.th_notes.proofs.tables.names_of.Given as goal

abbrev pub invariant-loop-o : goal.invariant-loop-o
invariant-loop-o l = (name : List ℕ) → has_name l.names name ≡ was_seen (take l.o-index l.observations) name
