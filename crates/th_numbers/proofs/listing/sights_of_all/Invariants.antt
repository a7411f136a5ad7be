use Rattle.std.proofs.Common.{◌≡◌, ◌++◌, drop, map}
use Rattle.th_numbers.specs.declared.candidates.Candidate.TheVariants.{Sight}
use Rattle.th_numbers.proofs.listing.sights_of_all.Given as goal

abbrev pub invariant-loop-o : goal.invariant-loop-o
invariant-loop-o l = l.found.items ++ map Sight (drop l.o-index l.observations) ≡ map Sight l.observations
