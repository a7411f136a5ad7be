use Rattle.std.proofs.Common.{◌≡◌, map, take}
use Rattle.th_numbers.specs.Readings.{read_observation}
use Rattle.th_numbers.proofs.readings.reread.Given as goal

abbrev pub invariant-loop-o : goal.invariant-loop-o
invariant-loop-o l = l.read.items ≡ map (read_observation l.kinds.entries.now l.book) (take l.o-index l.observations)
