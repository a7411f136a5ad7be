use Rattle.std.proofs.Common.{◌≡◌, drop}
use Rattle.th_notes.specs.Twins.{first_place}
use Rattle.th_notes.proofs.twins.first_place.Given as goal

abbrev pub invariant-loop-o : goal.invariant-loop-o
invariant-loop-o l = first_place (drop l.o-index l.observations) l.name ≡ first_place l.observations l.name
