use Rattle.std.proofs.Common.{◌≡◌, ◌++◌, drop}
use Rattle.std.specs.List.{flat_map}
use Rattle.th_numbers.specs.Lists.{changes, changes_at}
use Rattle.th_numbers.proofs.listing.changes_of.Given as goal

abbrev pub invariant-loop-o : goal.invariant-loop-o
invariant-loop-o l = l.found.items ++ flat_map (changes_at l.runs.observations.now l.kinds.entries.now) (drop l.o-index l.runs.observations.now) ≡ changes l.runs.observations.now l.kinds.entries.now
